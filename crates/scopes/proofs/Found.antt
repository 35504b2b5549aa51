-- The index that a search found, or none: what the model's first index says of it.
use Prim.Native.Nat.{ℕ, ◌≤◌, ◌<◌}
use native.Mathlib.Decide.{dec_lt}
use native.Mathlib.Omega.{arith}
use mathlib.Core.Path.{◌≡◌, refl, sym, ◌∙◌, ap}
use mathlib.Core.Bool.{Bool}
use borrow.Author.Tests.{lt-ltb, le-ltb}
use Rattle.std.proofs.Common.{Some, None}
use Rattle.model.specs.Index.{first}
use Rattle.model.proofs.Index.{first_is}
use Rattle.scopes.specs.Tables.{found_below}

pub found_at : (e r x : ℕ) → r < e → x ≡ r → Some r ≡ found_below e x
unfolding found_below
found_at e r x h k = ap Some (sym k) ∙ rw (lt-ltb x e (omega arith), found_below)

pub found_none : (e x : ℕ) → e ≤ x → None ≡ found_below e x
unfolding found_below
found_none e x h = rw (le-ltb x e h, found_below)

-- both ways
pub at_found : (e x r : ℕ) → found_below e x ≡ Some r → (x ≡ r) × (r < e)
at_found e x r h = elim (dec_lt x e) [
  | yes a ↦ let z : Some x ≡ Some r = found_at e x x a refl ∙ h in let w : x ≡ r = cc in (w, omega arith)
  | no a ↦ let z : None ≡ Some r = found_none e x (omega arith) ∙ h in cc
]

pub none_found : (e : ℕ) (f : ℕ → Bool) → found_below e (first 0 e f) ≡ None → first 0 e f ≡ e
none_found e f h = elim (dec_lt (first 0 e f) e) [
  | yes a ↦ let z : Some (first 0 e f) ≡ None = found_at e (first 0 e f) (first 0 e f) a refl ∙ h in cc
  | no a ↦ let w = first_is 0 e f (omega arith) in let b = w.upto in omega arith
]
