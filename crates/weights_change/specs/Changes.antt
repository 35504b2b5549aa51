-- The weights of a table as a line of the model, and the rules of a state by their kind.
use Rattle.std.specs.Prelude.{ℕ, ◌+◌, Bool, true, false, List, [], ◌∷◌, get_or, ltb}
use Rattle.model.specs.Index.{gather}
use Rattle.model.specs.Rules.{Rule}
use Rattle.model.specs.Weights.{Line}
use Rattle.steps.specs.Steps.{rule_of_step}
use Rattle.ceilings.specs.Table.{held}

-- the weights that the table of so many lines holds for line k, of n counters: the number past them weighs nothing
unfoldable pub weight_of : List ℕ → ℕ → ℕ → ℕ → Line
weight_of weights lines n k x = elim (ltb x n) [ true ↦ held weights lines k x | false ↦ 0 ]

-- the weight of a counter, and with it that of another where a rule names both
unfoldable pub weight_with_of : Line → ℕ → Bool → ℕ → ℕ
weight_with_of w x is_both y = elim is_both [ true ↦ w x + w y | false ↦ w x ]

-- the m rules of state i, all of this kind, in the two lists
unfoldable pub step_rules : ℕ → ℕ → List ℕ → List ℕ → ℕ → List Rule
step_rules kind i tos others m =
    gather 0 m
    (λ j. rule_of_step (record { from = i; to = get_or tos j 0; kind = kind; other = get_or others j 0 }) ∷ [])
