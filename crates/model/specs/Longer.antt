-- Document 02, (vi), "Longer programs": what a gate keeps when its limits are raised, and what a gate of the former
-- ones turns away, as types. Both gates read the message as it now is, with (iv)'s third array, and differ in limits
-- alone: a message on file is one of this form.
use Rattle.std.specs.Prelude.{ℕ, ◌≤◌, ◌<◌, ◌≡◌, ◌↔◌, ◌⊎◌, List, length}
use Rattle.model.specs.declared.Verdict.{Verdict}
use Rattle.model.specs.declared.Verdict.TheVariants.{Safe}
use Rattle.model.specs.Limits.{Limits, former, present}
use Rattle.model.specs.Verdict.{number, place}
use Rattle.model.specs.Counters.{counter_count}
use Rattle.model.specs.Verify.{Message, message, verdict_within, lent_after_within, part_handed_within}

-- "2 or 9": the refusals that speak of a limit
abbrev pub ByLimit : Verdict → Type 0
ByLimit v = (number v ≡ 2) ⊎ (number v ≡ 9)

-- each limit of the one is at most the other's
pub record Wider (few many : Limits) : Type 0 where
  pub rows : few.rows ≤ many.rows
  pub states : few.states ≤ many.states
  pub counters : few.counters ≤ many.counters

-- two gates answer alike: number and place, the part handed on, and the lent words afterwards
pub record Alike (few many : Limits) (bytes lent : List ℕ) : Type 0 where
  pub number : number (verdict_within many bytes (length lent)) ≡ number (verdict_within few bytes (length lent))
  pub place : place (verdict_within many bytes (length lent)) ≡ place (verdict_within few bytes (length lent))
  pub part : part_handed_within many bytes (length lent) ≡ part_handed_within few bytes (length lent)
  pub lent_words : lent_after_within many bytes lent ≡ lent_after_within few bytes lent

abbrev pub Kept : Limits → Limits → Type 0
Kept few many =
    (bytes lent : List ℕ) → (ByLimit (verdict_within few bytes (length lent)) → ⊥) → Alike few many bytes lent

-- R, S or the counters pass a limit
abbrev pub Passes : Limits → Message → Type 0
Passes most m =
    (most.rows < m.sizes.rows) ⊎
    ((most.states < m.sizes.states) ⊎ (most.counters < counter_count m.program m.tables))

abbrev pub TurnedAway : Limits → Limits → Type 0
TurnedAway few many =
    (bytes : List ℕ) (lent : ℕ) → verdict_within many bytes lent ≡ Safe →
    Passes few (message bytes) ↔ ByLimit (verdict_within few bytes lent)

-- "Messages on file that did not get 2 or 9 keep verdict and place."
abbrev pub MessagesKept : Type 0
MessagesKept = Kept former present

-- "A gate of the former limits turns the longer ones that are safe here away with 2 or 9": these, and none of the
-- others
abbrev pub LongerTurnedAway : Type 0
LongerTurnedAway = TurnedAway former present
