use mathlib.Core.Bool.{not}
use native.Mathlib.Omega.{arith}
use mathlib.Core.Path.{◌∙◌, ap}
use Rattle.model.specs.Words.{columns}
use Rattle.model.specs.Tables.{tables, entries}
use Rattle.model.specs.Counters.{counter_count}
use Rattle.rules.proofs.States.{state_head}
use Rattle.ceilings_letters.proofs.Sending.{more_tables, none_narrowed, held_narrowed, open_narrowed}
use Rattle.ceilings_letters.proofs.asked_letters.Goals as goal

pub returns-then-not-wanted : goal.returns-then-not-wanted
returns-then-not-wanted c = none_narrowed _ _ _ _ _ c.args.words _ _ _ (ap not c.if-not-wanted.true)

pub copy_into-requires : goal.copy_into-requires
copy_into-requires c = (c.requires.letters_room.row, c.requires.under.row)

pub returns-then-tag-ne-TAG_SEND : goal.returns-then-tag-ne-TAG_SEND
returns-then-tag-ne-TAG_SEND c =
    held_narrowed _ _ _ _ _ _ _ _ _ c.requires.under.counted c.requires.under.width _ _ c.state_location-r.ensures c.tag.ensures c.if-tag-ne-TAG_SEND.true
    (λ y l. c.copy_into.ensures.here y (omega (arith, c.requires.letters_room.bits)) ∙ c.requires.under.holds c.if-not-wanted.false y l)

pub rest-e-requires : goal.rest-e-requires
rest-e-requires c = record { ready = c.requires.ready.0; ends = c.requires.ready.1; r_value = rw c.state_location-r.ensures (state_head c.requires.ready.0 c.args.i c.requires.under.state) }

pub onward-to-requires : goal.onward-to-requires
onward-to-requires c = record { ready = c.requires.ready.0; i_lt_states = c.requires.under.state }

pub left_moved-mask-requires : goal.left_moved-mask-requires
unfolding counter_count tables entries columns
left_moved-mask-requires c = record { beside = c.requires.under.beside; states_le_n = omega (arith, c.requires.under.counted) }

pub open_letters-requires : goal.open_letters-requires
open_letters-requires c = record {
  letters_room = c.requires.letters_room;
  one_more = more_tables _ _ _ _ _ _ _ c.requires.under.beside;
  row = c.requires.under.row;
  held_set = c.requires.under.holds c.if-not-wanted.false;
}

pub returns : goal.returns
returns c =
    open_narrowed _ _ _ _ _ _ _ _ _ c.requires.under.counted c.requires.under.width _ _ c.state_location-r.ensures c.tag.ensures _ _ _ _ c.if-tag-ne-TAG_SEND.false c.requires.under.beside.held_by.few c.requires.under.state c.requires.under.remains c.rest-e.ensures c.onward-to.ensures c.left_moved-mask.ensures c.open_letters.ensures
