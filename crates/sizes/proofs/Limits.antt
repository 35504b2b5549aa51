-- The first size outside its limits: this one, or one behind it.
use Prim.Native.Nat.{ℕ, suc, ◌+◌, ◌≤◌, ◌<◌}
use native.Mathlib.Omega.{arith}
use mathlib.Core.Path.{◌≡◌, refl, sym, ◌∙◌, ap}
use mathlib.Core.Bool.{Bool, true, false, ◌&&◌}
use mathlib.Core.List.{List, [], ◌∷◌}
use lib.Dec.{leb}
use borrow.Author.Tests.{le-leb, lt-leb}
use Rattle.model.specs.Message.{Limited, limited}
use Rattle.model.proofs.Logic.{and_none}
use Rattle.sizes.specs.Sizes.{inside, first_outside}

pub first_outside_hit : (l : Limited) (ls : List Limited) → inside l ≡ false → first_outside (l ∷ ls) ≡ 0
unfolding first_outside
first_outside_hit l ls h = rw (h, first_outside)

pub first_outside_miss : (l : Limited) (ls : List Limited) → inside l ≡ true → first_outside (l ∷ ls) ≡ suc (first_outside ls)
unfolding first_outside
first_outside_miss l ls h = rw (h, first_outside)

one_more : (k : ℕ) → 1 + k ≡ suc k
one_more k = omega arith

-- the same by the code's tests, of a size and of the number that those behind it gave
module _ (size least most : ℕ) (ls : List Limited) where
  pub outside_below : size < least → 0 ≡ first_outside (limited size least most ∷ ls)
  unfolding inside
  outside_below h = sym (first_outside_hit (limited size least most) ls (rw (lt-leb least size h)))

  pub outside_above : most < size → 0 ≡ first_outside (limited size least most ∷ ls)
  unfolding inside
  outside_above h = sym (first_outside_hit (limited size least most) ls (rw (lt-leb size most h) (and_none (leb least size))))

  pub outside_behind : (k : ℕ) → least ≤ size → size ≤ most → k ≡ first_outside ls → 1 + k ≡ first_outside (limited size least most ∷ ls)
  unfolding inside
  outside_behind k h l e = one_more k ∙ ap suc e ∙ sym (first_outside_miss (limited size least most) ls (rw (le-leb least size h, le-leb size most l)))

-- where no size is left
pub outside_none : 0 ≡ first_outside []
unfolding first_outside
outside_none = refl
