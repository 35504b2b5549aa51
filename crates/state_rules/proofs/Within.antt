-- The rules that read or put a letter of a set, as part of all rules of a state.
use Prim.Native.Nat.{ℕ}
use native.Mathlib.Omega.{arith}
use mathlib.Core.Path.{◌≡◌, sym, ◌∙◌, ap}
use mathlib.Core.Bool.{Bool, true}
use mathlib.Core.List.{List, ◌++◌}
use lib.ListN.{length}
use Rattle.model.specs.Words.{right}
use Rattle.model.specs.Rows.{Program, Kind, tag, kind, send, receive}
use Rattle.model.specs.Tables.{Tables, state_at}
use Rattle.model.specs.Rules.{state_rules_of}
use Rattle.model.proofs.Heads.{by_kind, tag_is}
use Rattle.rules.specs.Listed.{kind_effect, StateRules}
use Rattle.rules.specs.Added.{Added}
use Rattle.rules.specs.Within.{letter_passes, only_passing, RulesWithin}
use Rattle.rules.proofs.Adding.{listed_none}
use Rattle.rules.proofs.Within.{listed_pass}

-- the rules of a state from those of its head
module _ (p : Program) (t : Tables) (f : ℕ → Bool) (i m : ℕ) (tos others tos' others' : List ℕ) where
  pub plain_within : (tag p (right t.states i) ≡ 5 → ⊥) → (tag p (right t.states i) ≡ 9 → ⊥) → StateRules p t i tos' others' m → RulesWithin p t f i tos' others' m
  unfolding kind_effect letter_passes
  plain_within not_send not_receive r =
      let k = kind (tag p (right t.states i)) in
      let plain : (y : ℕ) → letter_passes f (kind_effect k y) ≡ true = λ y.
      by_kind k
      (λ e. rw e)
      (λ e. rw e)
      (λ e. rw e)
      (λ e. rw e)
      (λ e. absurd (not_send (tag_is _ send e)))
      (λ e. rw e)
      (λ e. rw e)
      (λ e. rw e)
      (λ e. absurd (not_receive (tag_is _ receive e)))
      (λ e. rw e)
      in
      record {
        tos_room = r.tos_room;
        others_room = r.others_room;
        rules = sym (listed_pass f k plain i m tos' others') ∙ ap (only_passing f) r.rules;
      }

  pub lettered_within : (k : Kind) → kind (tag p (right t.states i)) ≡ k → length others ≡ length tos → Added k tos others 0 tos' others' m (λ e. only_passing f (state_rules_of p t e (state_at t i))) → RulesWithin p t f i tos' others' m
  lettered_within k e alike d =
      record {
        tos_room = d.low;
        others_room = omega (arith, d.low, d.tos_long, d.others_long);
        rules = rw e (d.rules i ∙ ap (λ xs. xs ++ only_passing f (state_rules_of p t i (state_at t i))) (listed_none k i tos others));
      }
