-- What the leak test is handed.
use Rattle.std.specs.Prelude.{ℕ, ◌*◌, ◌≤◌, ◌≡◌, Bool, false, length}
use mathlib.Core.List.{List, Memᴰ}
use Rattle.model.specs.declared.Sizes.{Sizes}
use Rattle.model.specs.Rows.{Program, program}
use Rattle.model.specs.Tables.{Tables, tables, state_at}
use Rattle.model.specs.Rules.{Rule, state_rules_of}
use Rattle.model.specs.Counters.{counter_count}
use Rattle.model.specs.Ceilings.{ceilings_of, ceiling_entries, highest}
use Rattle.ceilings_form.specs.Limits.{InForm, StartsTable}
use Rattle.rules.specs.Derived.{RuleRoom}
use Rattle.state_rules.specs.Within.{letter_passes}
use Rattle.kept_rules.specs.Kept.{RulesAsked}
use Rattle.ceilings.specs.Table.{held, LimitsTable}
use Rattle.ceilings_groups.specs.Groups.{table_ceilings, escapes}
use Rattle.ceilings_masks.specs.Compared.{Holders}

-- the n counters of a message, and the tables of its ceilings, which are in form
pub record CeilingsReady (ws : List ℕ) (s : Sizes) (n : ℕ) (limits starts holders : List ℕ) : Type 0 where
  pub counted : n ≡ counter_count (program ws s) (tables ws s)
  pub in_form : InForm ws s n
  pub limits_table : LimitsTable (ceilings_of ws s n) limits
  pub starts_table : StartsTable n (ceiling_entries ws s) s.ceilings starts
  pub held_by : Holders limits s.ceilings n holders

-- the scratch of the leak test: the rules of a state, and two sets for each counter
pub record Rooms (ws : List ℕ) (s : Sizes) (n : ℕ) (tos others near : List ℕ) : Type 0 where
  pub rules : RuleRoom ws s tos others
  pub near_room : n * 8 ≤ length near

-- between two places of the lists stand the rules of state i, but for some that lead out of nothing from the highest
-- counts of ceiling k
pub record RulesSeen (p : Program) (t : Tables) (limits : List ℕ) (ceilings n k i : ℕ) (tos others : List ℕ)
    (first end : ℕ) : Type 0 where
  pub passes : ℕ → Bool
  pub asked : RulesAsked p t passes i tos others first end
  pub harmless :
      (ρ : Rule) → Memᴰ ρ (state_rules_of p t i (state_at t i)) → letter_passes passes ρ.effect ≡ false →
      escapes (table_ceilings ceilings n limits) ρ (highest (held limits ceilings k)) ≡ false
