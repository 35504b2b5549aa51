-- The tests `under` and `under_some` say what lies under a ceiling, and under one of the ceilings; the highest counts of a ceiling lie under it.
use Prim.Native.Nat.{ℕ, ◌+◌, ◌≤◌, ◌<◌}
use native.Mathlib.Decide.{ℕ_discrete}
use native.Mathlib.Omega.{arith}
use mathlib.Core.Path.{◌≡◌}
use mathlib.Core.Bool.{true}
use mathlib.Core.Logic.{◌⊎◌, inl, inr, ⊎_elim, ◌↔◌}
use borrow.Author.Tests.{eq-eqb, ne_eqb}
use Rattle.model.specs.Limits.{omega_limit}
use Rattle.model.specs.Markings.{Marking}
use Rattle.model.specs.Ceilings.{CeilingLimits, Ceilings, allowed, under, under_some, highest}
use Rattle.model.specs.Demands.{Under, UnderOne}
use Rattle.model.proofs.Exact.Tests.{leb_iff, eqb_iff, or_iff, all_iff, any_iff}

-- a count that a limit allows
abbrev pub Allowed : ℕ → ℕ → Type 0
Allowed limit n = (limit ≡ omega_limit) ⊎ (n ≤ limit)

allowed_iff : (limit n : ℕ) → (allowed limit n ≡ true) ↔ Allowed limit n
unfolding allowed
allowed_iff limit n = or_iff _ _ (eqb_iff limit omega_limit) (leb_iff n limit)

-- the test for limits, for one ceiling, and for some ceiling
pub under_iff : (counters : ℕ) (b : CeilingLimits) (m : Marking) → (under counters b m ≡ true) ↔ ((x : ℕ) → x < counters → Allowed (b x) (m x))
unfolding under
under_iff counters b m = all_iff counters _ (λ x. allowed_iff (b x) (m x))

pub under_exact : (bs : Ceilings) (k : ℕ) (m : Marking) → (under bs.counters (bs.limit k) m ≡ true) ↔ Under bs k m
under_exact bs k m = under_iff bs.counters (bs.limit k) m

pub under_some_exact : (bs : Ceilings) (m : Marking) → (under_some bs m ≡ true) ↔ UnderOne bs m
unfolding under_some
under_some_exact bs m = any_iff bs.size _ (λ k. under_exact bs k m)

-- the highest count, by its limit
pub highest_unbounded : (b : CeilingLimits) (x : ℕ) → b x ≡ omega_limit → highest b x ≡ omega_limit + 1
unfolding highest
highest_unbounded b x h = rw (eq-eqb _ _ h, highest)

pub highest_limited : (b : CeilingLimits) (x : ℕ) → (b x ≡ omega_limit → ⊥) → highest b x ≡ b x
unfolding highest
highest_limited b x h = rw (ne_eqb _ _ h, highest)

-- the highest counts of a ceiling lie under it
pub highest_under : (bs : Ceilings) (k : ℕ) → Under bs k (highest (bs.limit k))
highest_under bs k x below = elim (ℕ_discrete (bs.limit k x) omega_limit) [
  | yes e ↦ inl e
  | no e ↦ inr (let h = highest_limited (bs.limit k) x e in omega arith)
]

pub highest_under_one : (bs : Ceilings) (k : ℕ) → k < bs.size → UnderOne bs (highest (bs.limit k))
highest_under_one bs k h = (k, h, highest_under bs k)

-- a count that a limit allows is at most the highest, or the highest is past every limit
pub below_highest : (b : CeilingLimits) (x n : ℕ) → Allowed (b x) n → (n ≤ highest b x) ⊎ (highest b x ≡ omega_limit + 1)
below_highest b x n h = elim (ℕ_discrete (b x) omega_limit) [
  | yes e ↦ inr (highest_unbounded b x e)
  | no e ↦ inl (let z = highest_limited b x e in ⊎_elim (λ u. absurd (e u)) (λ l. omega arith) h)
]
