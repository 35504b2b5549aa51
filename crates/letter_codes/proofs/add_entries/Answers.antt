use native.Mathlib.Omega.{arith}
use mathlib.Core.Path.{◌≡◌}
use Rattle.model.specs.Words.{right}
use Rattle.model.specs.Tables.{tables}
use Rattle.lists.proofs.Facts.{mail_usable}
use Rattle.lists.proofs.Told.{mail_told}
use Rattle.ascending.proofs.Numbers.{added_room}
use Rattle.letter_codes.proofs.Entries.{mail_value_low, entries_none, entries_next, entries_all}
use Rattle.letter_codes.proofs.add_entries.Goals as goal

pub loop-j-init : goal.loop-j-init
loop-j-init c = entries_none _ _ _ c.requires.entries_room.room

pub right-v-requires : goal.right-v-requires
right-v-requires c = (mail_usable c.requires.heads_known.ready _ c.mail-list.ensures).0

pub add_value-m-requires : goal.add_value-m-requires
add_value-m-requires c =
    let told-here : c.right-v.result ≡ right (tables c.args.ws.now c.args.s).mail c.loop-j.j = mail_told _ _ _ _ _ c.right-v.ensures c.mail-list.ensures in
    record {
      heads_known = c.requires.heads_known;
      v_bound = (mail_value_low c.requires.heads_known.ready _ _ (omega (arith, c.requires.entries_room.upto)) told-here, added_room c.requires.entries_room.room c.loop-j.invariant);
    }

pub loop-j-preserved : goal.loop-j-preserved
loop-j-preserved c =
    let told-here : c.right-v.result ≡ right (tables c.args.ws.now c.args.s).mail c.loop-j.j = mail_told _ _ _ _ _ c.right-v.ensures c.mail-list.ensures in entries_next _ _ _ _ (omega arith) told-here c.loop-j.invariant c.add_value-m.ensures

pub returns : goal.returns
returns c = entries_all _ _ _ _ (omega (arith, c.requires.entries_room.order, c.loop-j-test.false)) c.loop-j.invariant
