-- Which ceilings cover the counts after a step from the highest counts of a ceiling.
use Rattle.std.specs.Prelude.{ℕ, ◌*◌, ◌-◌, ◌≤◌, ◌<◌, ◌≡◌, Bool, true, false, not, ◌&&◌, ◌||◌, List, [], ◌∷◌, eqb, ltb, get_or}
use Rattle.model.specs.Rules.{Rule}
use Rattle.model.specs.Markings.{fire}
use Rattle.model.specs.Ceilings.{allowed, highest, under}
use Rattle.bits.specs.Bits.{member}
use Rattle.masks.specs.declared.Mask.{Mask}
use Rattle.masks.specs.Masks.{has}
use Rattle.steps.specs.declared.Step.{Step}
use Rattle.steps.specs.Steps.{rule_of_step, does_take_other}
use Rattle.ceilings.specs.Table.{held}
use Rattle.ceilings_masks.specs.declared.Over.{Over}
use Rattle.ceilings_masks.specs.Compared.{most, exceeds, takes_more}

-- ceiling k' covers the counts after a rule from the highest counts of ceiling k
unfoldable pub covers : List ℕ → ℕ → ℕ → ℕ → Rule → ℕ → Bool
covers limits ceilings n k ρ k' = under n (held limits ceilings k') (fire ρ (highest (held limits ceilings k)))

-- ceiling k' allows what counter y has after the step
unfoldable pub passes : List ℕ → ℕ → ℕ → ℕ → Step → ℕ → Bool
passes limits ceilings k k' σ y = allowed (held limits ceilings k' y)
    (fire (rule_of_step σ) (highest (held limits ceilings k)) y)

-- the mask has every ceiling that holds the highest counts of ceiling k with one less at counter i, and no other
pub record Left (limits : List ℕ) (ceilings n k i : ℕ) (m : Mask) : Type 0 where
  pub few : (j : ℕ) → j < 256 → has m j ≡ true → j < ceilings
  pub others : (j y : ℕ) → j < ceilings → has m j ≡ true → y < n → (y ≡ i → ⊥) → exceeds limits ceilings k j y ≡ false
  pub here :
      (j : ℕ) → j < ceilings → has m j ≡ true →
      allowed (held limits ceilings j i) (most limits ceilings k i - 1) ≡ true
  pub all :
      (j : ℕ) → j < ceilings → ((y : ℕ) → y < n → (y ≡ i → ⊥) → exceeds limits ceilings k j y ≡ false) →
      allowed (held limits ceilings j i) (most limits ceilings k i - 1) ≡ true → has m j ≡ true

-- of the mask `left`, of counter i, the ceilings that hold one more than ceiling k at the state `to`; none where that
-- is i, or none of the states
unfoldable pub moved : List ℕ → ℕ → ℕ → ℕ → ℕ → ℕ → Mask → ℕ → Bool
moved limits ceilings states k i to left j =
    (not (eqb to i) && ltb to states) && (has left j && takes_more limits ceilings k to j)

-- the mask has every ceiling that covers the counts after the step; it may have others, but none that the highest
-- counts of ceiling k exceed at a counter from which the step does not take
pub record Candidates (limits : List ℕ) (ceilings n k : ℕ) (σ : Step) (m : Mask) : Type 0 where
  pub few : (j : ℕ) → j < 256 → has m j ≡ true → j < ceilings
  pub others :
      (j y : ℕ) → j < ceilings → has m j ≡ true → y < n → (y ≡ σ.from → ⊥) → does_take_other σ y ≡ false →
      exceeds limits ceilings k j y ≡ false
  pub all : (j : ℕ) → j < ceilings → ((y : ℕ) → y < n → passes limits ceilings k j σ y ≡ true) → has m j ≡ true

-- the mask has none but those of m; and where the step does not take from counter y, none but those that hold one
-- more than ceiling k there
pub record Raised (limits : List ℕ) (ceilings n k : ℕ) (σ : Step) (y : ℕ) (m r : Mask) : Type 0 where
  pub within : (j : ℕ) → has r j ≡ true → has m j ≡ true
  pub more :
      (j : ℕ) → j < 256 → has r j ≡ true → y < n → (y ≡ σ.from → ⊥) → does_take_other σ y ≡ false →
      takes_more limits ceilings k y j ≡ true

-- the step takes from one counter alone, and adds to others alone, to each once
unfoldable pub sure : Step → Bool
sure σ = not (eqb σ.kind 1) && (not (eqb σ.to σ.from) &&
    (ltb σ.kind 2 || not (eqb σ.other σ.from) && not (eqb σ.other σ.to)))

-- where the step is sure, each ceiling of the mask allows what each counter has after it
abbrev pub Exact : List ℕ → ℕ → ℕ → ℕ → Step → Mask → Type 0
Exact limits ceilings n k σ m =
    sure σ ≡ true → (j y : ℕ) → j < ceilings → has m j ≡ true → y < n → passes limits ceilings k j σ y ≡ true

-- what a step takes from are counters of the n, and not one twice; its kind is one of the four
pub record StepApart (n : ℕ) (σ : Step) : Type 0 where
  pub from : σ.from < n
  pub kind : σ.kind ≤ 3
  pub read : σ.kind ≡ 1 → (σ.other < n) × (σ.other ≡ σ.from → ⊥)

-- counter number b of the three that a step names
unfoldable pub named : Step → ℕ → ℕ
named σ b = get_or (σ.to ∷ σ.from ∷ σ.other ∷ []) b 0

-- those of the mask `left`, and those that are exceeded at the counter of set b only, or at those of the sets a and b
-- only
unfoldable pub reading : (left twice thrice a b : ℕ → Bool) → ℕ → Bool
reading left twice thrice a b j = (left j || b j && not (twice j)) || (a j && b j) && not (thrice j)

-- the mask is `left` where the step reads no counter; else it has those of `left`, and those that are exceeded by one
-- at the counter that it reads and nowhere else, or there and at the counter that it comes from
pub record Taken (over : Over) (near : List ℕ) (left : Mask) (σ : Step) (r : Mask) : Type 0 where
  pub quiet : (σ.kind ≡ 1 → ⊥) → r ≡ left
  pub reads :
      σ.kind ≡ 1 → (j : ℕ) → j < 256 →
      has r j ≡ reading (has left) (has over.twice) (has over.thrice) (member near 4 (2 * σ.from))
      (member near 4 (2 * σ.other)) j
