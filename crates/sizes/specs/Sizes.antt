-- What the code of this crate says of sizes: which is the first outside its limits.
use Rattle.std.specs.Prelude.{ℕ, suc, Bool, true, false, ◌&&◌, List, [], ◌∷◌, leb}
use Rattle.model.specs.Message.{Limited}

-- a size is within its limits
unfoldable pub inside : Limited → Bool
inside l = leb l.least l.size && leb l.size l.most

-- the number of the first size outside its limits, and the number of sizes where none is
unfoldable pub first_outside : List Limited → ℕ
first_outside [] = 0
first_outside (l ∷ ls) = elim (inside l) [ true ↦ suc (first_outside ls) | false ↦ 0 ]
