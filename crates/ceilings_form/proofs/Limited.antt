-- A limit that allows a count, and the highest count under it.
use Prim.Native.Nat.{ℕ, ◌+◌}
use mathlib.Core.Path.{◌≡◌, sym, ◌∙◌, ap}
use borrow.Author.Tests.{eq-eqb, ne_eqb}
use Rattle.model.specs.Limits.{omega_limit}
use Rattle.model.specs.Ceilings.{CeilingLimits, highest}

pub highest_omega : (b : CeilingLimits) (x l : ℕ) → l ≡ b x → l ≡ omega_limit → omega_limit + 1 ≡ highest b x
unfolding highest
highest_omega b x l e h = rw (eq-eqb _ _ (sym e ∙ h), highest)

pub highest_limit : (b : CeilingLimits) (x l : ℕ) → l ≡ b x → (l ≡ omega_limit → ⊥) → l ≡ highest b x
unfolding highest
highest_limit b x l e h = rw (ne_eqb _ _ (λ z. h (e ∙ z)), highest) e

-- equal limits, equal highest counts
pub highest_same : (b b' : CeilingLimits) (x : ℕ) → b x ≡ b' x → highest b x ≡ highest b' x
unfolding highest
highest_same b b' x e = ap (λ l. highest (λ y. l) x) e
