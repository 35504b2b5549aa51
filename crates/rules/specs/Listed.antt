-- The rules of one state as two short lists: where they lead, and the other counter. All rules of a state are of one
-- kind.
use Rattle.std.specs.Prelude.{ℕ, ◌≤◌, ◌≡◌, List, [], ◌∷◌, length, get_or}
use Rattle.model.specs.Index.{gather}
use Rattle.model.specs.Words.{right}
use Rattle.model.specs.Rows.{Program, tag, kind, Kind, give, build, function, call, send, spawn, self, case, receive}
use Rattle.model.specs.Rows.{other}
use Rattle.model.specs.Tables.{Tables, state_at}
use Rattle.model.specs.Rules.{Effect, quiet, reads, puts, starts, Rule, rule, state_rules_of}

-- what the rules at a head of this kind do with the other counter
unfoldable pub kind_effect : Kind → ℕ → Effect
kind_effect give x = quiet
kind_effect build x = quiet
kind_effect function x = quiet
kind_effect call x = quiet
kind_effect send x = puts x
kind_effect spawn x = starts x
kind_effect self x = quiet
kind_effect case x = quiet
kind_effect receive x = reads x
kind_effect other x = quiet

-- rule k of state i, whose head is of this kind
unfoldable pub listed_rule : Kind → ℕ → List ℕ → List ℕ → ℕ → Rule
listed_rule h i tos others k = rule i (get_or tos k 0) (kind_effect h (get_or others k 0))

-- the first n of them, in order
unfoldable pub listed_rules : Kind → ℕ → List ℕ → List ℕ → ℕ → List Rule
listed_rules h i tos others n = gather 0 n (λ k. listed_rule h i tos others k ∷ [])

-- the two lists hold the n rules of state i
pub record StateRules (p : Program) (t : Tables) (i : ℕ) (tos others : List ℕ) (n : ℕ) : Type 0 where
  pub tos_room : n ≤ length tos
  pub others_room : n ≤ length others
  pub rules : listed_rules (kind (tag p (right t.states i))) i tos others n ≡ state_rules_of p t i (state_at t i)
