-- The first line that some rule of a list raises: rule by rule, each below the first line so far.
use Prim.Native.Nat.{ℕ, ◌+◌, ◌≤◌, ◌<◌, zero-le}
use native.Mathlib.Decide.{dec_lt}
use native.Mathlib.Omega.{arith}
use mathlib.Core.Path.{◌≡◌, refl, sym, ◌∙◌, ap}
use mathlib.Core.Bool.{Bool, false, ◌||◌}
use mathlib.Core.List.{List, [], ◌∷◌}
use lib.ListN.{get_or}
use Rattle.model.specs.Index.{first, gather}
use Rattle.model.specs.Rules.{Rule}
use Rattle.model.specs.Weights.{Line, change, above_zero, raised}
use Rattle.model.proofs.Logic.{or_false, or_left, or_right}
use Rattle.model.proofs.Index.{first_is, first_unique, gather_end, gather_turn}
use Rattle.steps.specs.declared.Step.{Step}
use Rattle.steps.specs.Steps.{rule_of_step}
use Rattle.weights_change.specs.Changes.{step_rules}

-- the first index at which one of two tests passes: the first one's, or one below it that passes the second
pub first_or : (u : ℕ) (f g : ℕ → Bool) → first 0 u (λ k. f k || g k) ≡ first 0 (first 0 u f) g
first_or u f g =
    let a = first_is 0 u f zero-le in
    let b = first_is 0 (first 0 u f) g zero-le in
    first_unique 0 u (first 0 (first 0 u f) g) (λ k. f k || g k) zero-le
    (record {
      from = zero-le;
      upto = omega (arith, a.upto, b.upto);
      passes = λ h. elim (dec_lt (first 0 (first 0 u f) g) (first 0 u f)) [
        | yes l ↦ or_right (f (first 0 (first 0 u f) g)) _ (b.passes l)
        | no l ↦
            let z : first 0 (first 0 u f) g ≡ first 0 u f = omega (arith, b.upto) in
            or_left _ (g (first 0 (first 0 u f) g)) (ap f z ∙ a.passes (omega (arith, z)))
      ];
      before = λ j lo hi. or_false (f j) (g j) (a.before j lo (omega (arith, b.upto))) (b.before j lo hi);
    })

-- none passes
pub first_none : (u : ℕ) (f : ℕ → Bool) → ((k : ℕ) → f k ≡ false) → first 0 u f ≡ u
first_none u f h =
    first_unique 0 u u f zero-le
    (record { from = zero-le; upto = omega arith; passes = λ l. absurd (omega arith); before = λ j lo hi. h j })

module _ (w : ℕ → Line) (upto : ℕ) where
  -- the first line below so many that some of the rules raises
  abbrev pub first_by : List Rule → ℕ
  first_by ρs = first 0 upto (λ k. raised (w k) ρs)

  pub first_by_none : first_by [] ≡ upto
  unfolding raised
  first_by_none = first_none upto (λ k. false) (λ k. refl)

-- the rules of a state, one after the other
module _ (w : ℕ → Line) (kind i : ℕ) (tos others : List ℕ) (m : ℕ) where
  abbrev pub step : ℕ → ℕ → Step
  step to other = record { from = i; to = to; kind = kind; other = other }

  abbrev pub step_at : ℕ → Step
  step_at j = step (get_or tos j 0) (get_or others j 0)

  -- those from rule j on
  abbrev pub rules_left : ℕ → List Rule
  rules_left j = gather j m (λ x. rule_of_step (step_at x) ∷ [])

  -- what all of them give, those that are left give below the first line so far
  abbrev pub SoFar : ℕ → ℕ → ℕ → Type 0
  SoFar upto j least = (first_by w upto (step_rules kind i tos others m) ≡ first_by w least (rules_left j)) × (least ≤ upto) × (j ≤ m)

  pub so_far_start : (upto : ℕ) → SoFar upto 0 upto
  unfolding step_rules
  so_far_start upto = (refl, omega arith, zero-le)

  module _ (upto j least : ℕ) (h : SoFar upto j least) where
    pub so_far_next : j < m → (to other : ℕ) → to ≡ get_or tos j 0 → other ≡ get_or others j 0 → (least' : ℕ) → least' ≡ first 0 least (λ k. above_zero (change (w k) (rule_of_step (step to other)))) → least' ≤ least → SoFar upto (j + 1) least'
    unfolding raised
    so_far_next below to other t o least' e l =
        let turn : first_by w least (rules_left j) ≡ first 0 least (λ k. above_zero (change (w k) (rule_of_step (step_at j))) || raised (w k) (rules_left (j + 1))) =
        ap (λ ρs. first_by w least ρs) (gather_turn j m (λ x. rule_of_step (step_at x) ∷ []) below) in
        let z : least' ≡ first 0 least (λ k. above_zero (change (w k) (rule_of_step (step_at j)))) = rw (t, o) at e in (
          h.0 ∙ (turn ∙ (first_or least (λ k. above_zero (change (w k) (rule_of_step (step_at j)))) (λ k. raised (w k) (rules_left (j + 1))) ∙ ap (λ u. first_by w u (rules_left (j + 1))) (sym z))),
          omega (arith, h.1, l),
          omega (arith, below),
        )

    pub so_far_end : m ≤ j → least ≡ first_by w upto (step_rules kind i tos others m)
    so_far_end end = sym (h.0 ∙ (ap (λ ρs. first_by w least ρs) (gather_end j m (λ x. rule_of_step (step_at x) ∷ []) end) ∙ first_by_none w least))
