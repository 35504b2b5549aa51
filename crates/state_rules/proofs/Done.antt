-- The rules of a state from those of its head.
use Prim.Native.Nat.{ℕ, ◌<◌}
use native.Mathlib.Omega.{arith}
use mathlib.Core.Path.{◌≡◌, refl, sym, ◌∙◌, ap}
use mathlib.Core.Bool.{true, not}
use mathlib.Core.List.{List, []}
use mathlib.Core.Option.{none}
use lib.ListN.{length}
use borrow.Author.Tests.{eqb-true}
use Rattle.model.specs.declared.Sizes.{Sizes}
use Rattle.model.specs.Words.{right, columns}
use Rattle.model.specs.Rows.{Program, program, Kind, tag, kind, give, build, function, call, send, spawn, self, case, receive}
use Rattle.model.specs.Tables.{Tables, tables, entries, state_at}
use Rattle.model.specs.Closed.{state_closed, open_check}
use Rattle.model.specs.Rules.{quiet, state_rules_of}
use Rattle.model.proofs.Logic.{test, not_passes}
use Rattle.model.proofs.Index.{first_below}
use Rattle.model.proofs.Heads.{by_kind, tag_is, head_other}
use Rattle.model.proofs.Exact.Checks.{then_none, unless_none}
use Rattle.model.proofs.Parse.Locations.{location_known}
use Rattle.lists.specs.Ready.{Ready}
use Rattle.rules.specs.Listed.{kind_effect, StateRules}
use Rattle.rules.specs.Added.{Added}
use Rattle.rules.proofs.Adding.{added_alike, state_added, state_quiet}
use Rattle.plain_rules.specs.Heads.{Plain}
use Rattle.plain_rules.proofs.Heads.{here}

module _ {ws : List ℕ} {s : Sizes} (h : Ready ws s) where
  abbrev p : Program
  p = program ws s

  abbrev t : Tables
  t = tables ws s

  -- where refusal 8 finds nothing each state is closed
  pub state_open : (i : ℕ) → open_check s p t ≡ none → i < s.states → state_closed p t (state_at t i) ≡ true
  unfolding open_check tables entries columns
  state_open i e l =
      let all = eqb-true _ s.states ((unless_none _ _).0 ((then_none _ _).0 e).1) in
      test (state_closed p t (state_at t i))
      (λ z. z)
      (λ z. absurd (omega (arith, first_below 0 s.states i (λ k. not (state_closed p t (state_at t k))) (omega arith) l (not_passes _ z))))

  module _ (i r m : ℕ) (row : r ≡ right t.states i) (tos others tos' others' : List ℕ) (alike : length others ≡ length tos) where
    pub quiet_done : (k : Kind) → kind (tag p r) ≡ k → ((y : ℕ) → kind_effect k y ≡ quiet) → Added k tos [] 0 tos' [] m (λ e. state_rules_of p t e (state_at t i)) → length others' ≡ length others → StateRules p t i tos' others' m
    quiet_done k e q d long = state_quiet p t i m tos others tos' others' alike k (ap (λ x. kind (tag p x)) (sym row) ∙ e) q d long

    pub loud_done : (k : Kind) → kind (tag p r) ≡ k → Added k tos others 0 tos' others' m (λ e. state_rules_of p t e (state_at t i)) → StateRules p t i tos' others' m
    loud_done k e d = state_added p t i m tos others tos' others' alike k (ap (λ x. kind (tag p x)) (sym row) ∙ e) d

    pub plain_done : Plain p r → Added self tos [] 0 tos' [] m (λ e. state_rules_of p t e (state_at t i)) → length others' ≡ length others → StateRules p t i tos' others' m
    unfolding kind_effect
    plain_done g d long =
        by_kind (kind (tag p r))
        (λ e. absurd (g.not_give (tag_is _ give e)))
        (λ e. quiet_done build e (λ y. refl) (added_alike self build tos [] 0 tos' [] m _ (λ y. refl) (λ y. refl) d) long)
        (λ e. quiet_done function e (λ y. refl) (added_alike self function tos [] 0 tos' [] m _ (λ y. refl) (λ y. refl) d) long)
        (λ e. absurd (g.not_call (tag_is _ call e)))
        (λ e. absurd (g.not_send (tag_is _ send e)))
        (λ e. absurd (g.not_spawn (tag_is _ spawn e)))
        (λ e. quiet_done self e (λ y. refl) d long)
        (λ e. absurd (g.not_case (tag_is _ case e)))
        (λ e. absurd (g.not_receive (tag_is _ receive e)))
        (λ e. absurd (location_known (here h r g.head) (head_other p r e)))
