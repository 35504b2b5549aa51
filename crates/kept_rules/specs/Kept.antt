-- Where the rules of a state stand in two lists that hold those of several.
use Rattle.std.specs.Prelude.{ℕ, ◌+◌, ◌≤◌, ◌<◌, ◌≡◌, Bool, true, ◌⊎◌, List, [], ◌∷◌, length, get_or, drop}
use Rattle.model.specs.declared.Sizes.{Sizes}
use Rattle.model.specs.Index.{gather}
use Rattle.model.specs.Words.{right}
use Rattle.model.specs.Rows.{Program, tag, kind}
use Rattle.model.specs.Tables.{Tables, state_at}
use Rattle.model.specs.Rules.{state_rules_of}
use Rattle.rules.specs.Listed.{StateRules, listed_rule}
use Rattle.rules.specs.Derived.{RuleRoom}
use Rattle.rules.specs.Within.{only_passing}
use Rattle.kept_rules.specs.declared.Kept.{Kept}

-- from word `first` on the two lists have room for the rules of any state
pub record RoomFrom (ws : List ℕ) (s : Sizes) (first : ℕ) (tos others : List ℕ) : Type 0 where
  pub room : RuleRoom ws s (drop first tos) (drop first others)

-- from there on they hold the m rules of state i
pub record RulesFrom (p : Program) (t : Tables) (i first : ℕ) (tos others : List ℕ) (m : ℕ) : Type 0 where
  pub rules : StateRules p t i (drop first tos) (drop first others) m

-- the rules of state i stand in the two lists from `first` up to `end`
pub record RulesAt (p : Program) (t : Tables) (i : ℕ) (tos others : List ℕ) (first end : ℕ) : Type 0 where
  pub order : first ≤ end
  pub tos_room : end ≤ length tos
  pub others_room : end ≤ length others
  pub rules :
      gather first end (λ j. listed_rule (kind (tag p (right t.states i))) i tos others j ∷ []) ≡
      state_rules_of p t i (state_at t i)

-- the same of all rules of state i, or of those that have no letter or one that passes
pub record RulesAsked (p : Program) (t : Tables) (f : ℕ → Bool) (i : ℕ) (tos others : List ℕ)
    (first end : ℕ) : Type 0 where
  pub order : first ≤ end
  pub tos_room : end ≤ length tos
  pub others_room : end ≤ length others
  pub rules :
      (gather first end (λ j. listed_rule (kind (tag p (right t.states i))) i tos others j ∷ []) ≡
      state_rules_of p t i (state_at t i)) ⊎
      (gather first end (λ j. listed_rule (kind (tag p (right t.states i))) i tos others j ∷ []) ≡
      only_passing f (state_rules_of p t i (state_at t i)))

-- the rules of the states below e are kept: those of state i from word i of `first-at` up to the next, and those of
-- state e will begin at `used`
pub record KeptUpto (p : Program) (t : Tables) (e used : ℕ) (first-at tos others : List ℕ) : Type 0 where
  pub room : e < length first-at
  pub next : get_or first-at e 0 ≡ used
  pub each :
      (i : ℕ) → i < e →
      RulesAt p t i tos others (get_or first-at i 0) (get_or first-at (i + 1) 0) × (get_or first-at (i + 1) 0 ≤ used)

-- the same, where all of them are
abbrev pub KeptRules : Program → Tables → ℕ → Kept → List ℕ → List ℕ → List ℕ → Type 0
KeptRules p t e k first-at tos others = k.all ≡ true → KeptUpto p t e k.used first-at tos others
