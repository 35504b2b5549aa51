-- What the reader of bads expects, as the model's stack of parts.
use Rattle.std.specs.Prelude as rust
use Rattle.std.specs.Prelude.{Some, None, ℕ, Bool, true, false, ◌&&◌, List, [], ◌∷◌, ◌++◌, replicate, eqb}
use Rattle.std.proofs.Math.Option.{Option, some, none, map}
use Rattle.model.specs.Reader.{fits}
use Rattle.model.specs.Rows.{Program}
use Rattle.model.specs.Heads.{is_class_of}
use Rattle.model.specs.Bads.{Part, bad, subject, minimum, detail, further, item}
use Rattle.bads.specs.declared.Expected.{Expected}
use Rattle.bads.specs.declared.Expected.TheVariants.{Bads, Subject, Minimum, Detail, Further}

unfoldable pub stack : Expected → List Part
stack (Bads k) = replicate k bad
stack (Subject k) = subject ∷ further ∷ replicate k bad
stack (Minimum heads k) = minimum heads ∷ further ∷ replicate k bad
stack (Detail heads k) = detail heads ∷ further ∷ replicate k bad
stack (Further k) = further ∷ replicate k bad

-- what a row makes of it, if it fits
unfoldable pub stacks : rust.Option Expected → Option (List Part)
stacks None = none
stacks (Some e) = some (stack e)

-- the first row of an item, behind which k bads begin
unfoldable pub item_step : Program → ℕ → ℕ → ℕ → Option (List Part)
item_step p k t n = map (λ more. more ++ replicate k bad) (fits (eqb t 40 && is_class_of p n) item)

unfoldable pub no_more : List Part → Bool
no_more [] = true
no_more (part ∷ parts) = false
