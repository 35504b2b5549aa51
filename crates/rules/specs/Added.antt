-- Rules added to the two lists, behind those that stand there.
use Rattle.std.specs.Prelude.{ℕ, ◌≤◌, ◌≡◌, List, ◌++◌, length}
use Rattle.model.specs.Rows.{Kind}
use Rattle.model.specs.Rules.{Rule}
use Rattle.rules.specs.Listed.{listed_rules}

-- The lists held n rules of a kind; now they hold m, those and the rules ρs of their state, whose number is the
-- argument of ρs.
pub record Added (h : Kind) (tos others : List ℕ) (n : ℕ) (tos' others' : List ℕ) (m : ℕ)
    (ρs : ℕ → List Rule) : Type 0 where
  pub rules : (i : ℕ) → listed_rules h i tos' others' m ≡ listed_rules h i tos others n ++ ρs i
  pub low : m ≤ length tos'
  pub tos_long : length tos' ≡ length tos
  pub others_long : length others' ≡ length others
