-- A rule's step, one counter at a time: higher counts stay higher, a count falls by one at most, and what can be used at counts under a ceiling
-- can be used at its highest counts.
use Prim.Native.Nat.{ℕ, ◌+◌, ◌-◌, ◌≤◌, ◌<◌}
use native.Mathlib.Decide.{ℕ_discrete}
use native.Mathlib.Omega.{arith}
use mathlib.Core.Path.{◌≡◌, refl, sym, ◌∙◌}
use mathlib.Core.Bool.{Bool, true, false}
use mathlib.Core.Logic.{inl, inr, ⊎_elim}
use lib.Dec.{leb, eqb}
use borrow.Author.Tests.{leb-true, le-leb, ne_eqb}
use Rattle.model.specs.Limits.{omega_limit}
use Rattle.model.specs.Letters.{one_if}
use Rattle.model.specs.Rules.{Effect, quiet, reads, puts, starts, Rule}
use Rattle.model.specs.Markings.{Marking, readable, usable, fire}
use Rattle.model.specs.Ceilings.{CeilingLimits, highest}
use Rattle.model.proofs.Logic.{and_left, and_right, and_intro}
use Rattle.model.proofs.Markings.{effect_less, effect_more, fire_at}
use Rattle.model.proofs.Bounded.Under.{Allowed, below_highest}

-- what a rule reads is a counter, and not the one that it leaves
abbrev pub Apart : ℕ → ℕ → Effect → Type 0
Apart counters from quiet = Unit {0}
Apart counters from (reads x) = (x < counters) × (x ≡ from → ⊥)
Apart counters from (puts x) = Unit {0}
Apart counters from (starts x) = Unit {0}

-- a rule leaves a counter, and takes no counter twice
abbrev pub Shaped : ℕ → Rule → Type 0
Shaped counters ρ = (ρ.from < counters) × Apart counters ρ.from ρ.effect

-- one counter, before and after a rule
fired : (ρ : Rule) (m : Marking) (y : ℕ) → fire ρ m y ≡ m y - one_if (eqb y ρ.from) - effect_less ρ.effect y + one_if (eqb y ρ.to) + effect_more ρ.effect y
fired ρ = fire_at ρ.from ρ.to ρ.effect

-- a higher count is higher afterwards
pub fire_mono : (ρ : Rule) (m m' : Marking) (y : ℕ) → m y ≤ m' y → fire ρ m y ≤ fire ρ m' y
fire_mono ρ m m' y h = omega (arith, fired ρ m y, fired ρ m' y)

one_at_most : (b : Bool) → one_if b ≤ 1
unfolding one_if
one_at_most true = omega arith
one_at_most false = omega arith

-- no counter is taken from twice
taken_once : (counters from : ℕ) (e : Effect) (y : ℕ) → Apart counters from e → one_if (eqb y from) + effect_less e y ≤ 1
unfolding effect_less one_if
taken_once counters from quiet y a = omega (arith, one_at_most (eqb y from))
taken_once counters from (reads x) y a = elim (ℕ_discrete y x) [
  | yes e ↦ rw (ne_eqb y from (λ z. a.1 (sym e ∙ z))) (omega (arith, one_at_most (eqb y x)))
  | no e ↦ rw (ne_eqb y x e) (omega (arith, one_at_most (eqb y from)))
]
taken_once counters from (puts x) y a = omega (arith, one_at_most (eqb y from))
taken_once counters from (starts x) y a = omega (arith, one_at_most (eqb y from))

-- a count falls by one at most
pub fire_loss : (counters : ℕ) (ρ : Rule) (m : Marking) (y : ℕ) → Shaped counters ρ → m y ≤ fire ρ m y + 1
fire_loss counters ρ m y s = omega (arith, fired ρ m y, taken_once counters ρ.from ρ.effect y s.1)

-- counts, and the highest counts of the ceiling that they lie under

one_at_highest : (b : CeilingLimits) (x n : ℕ) → Allowed (b x) n → leb 1 n ≡ true → leb 1 (highest b x) ≡ true
one_at_highest b x n a h =
    let one = leb-true 1 n h in
    le-leb 1 (highest b x) (⊎_elim (λ z. omega arith) (λ z. omega arith) (below_highest b x n a))

readable_at_highest : (counters from : ℕ) (b : CeilingLimits) (e : Effect) (m : Marking) → Apart counters from e → ((x : ℕ) → x < counters → Allowed (b x) (m x)) → readable e m ≡ true → readable e (highest b) ≡ true
unfolding readable
readable_at_highest counters from b quiet m a u h = refl
readable_at_highest counters from b (reads x) m a u h = one_at_highest b x (m x) (u x a.0) h
readable_at_highest counters from b (puts x) m a u h = refl
readable_at_highest counters from b (starts x) m a u h = refl

module _ (counters : ℕ) (ρ : Rule) (shaped : Shaped counters ρ) (b : CeilingLimits) (m : Marking) (u : (x : ℕ) → x < counters → Allowed (b x) (m x)) where
  -- what can be used at the counts can be used at the highest
  pub usable_at_highest : usable ρ m ≡ true → usable ρ (highest b) ≡ true
  unfolding usable
  usable_at_highest h =
      and_intro _ _
      (one_at_highest b ρ.from (m ρ.from) (u ρ.from shaped.0) (and_left _ (readable ρ.effect m) h))
      (readable_at_highest counters ρ.from b ρ.effect m shaped.1 u (and_right (leb 1 (m ρ.from)) _ h))

  -- where the highest counts come under a ceiling, the counts do: an unbounded counter stays past every limit but the last
  pub fire_allowed : (b' : CeilingLimits) → ((x : ℕ) → b' x ≤ omega_limit) → ((x : ℕ) → x < counters → Allowed (b' x) (fire ρ (highest b) x)) → (x : ℕ) → x < counters → Allowed (b' x) (fire ρ m x)
  fire_allowed b' short h x below =
      ⊎_elim (λ e. inl e)
      (λ le. ⊎_elim (λ lower. let mono = fire_mono ρ m (highest b) x lower in inr (omega arith))
      (λ past. let loss = fire_loss counters ρ (highest b) x shaped in let limit = short x in inl (omega arith))
      (below_highest b x (m x) (u x below)))
      (h x below)
