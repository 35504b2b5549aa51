use Prim.Native.Nat.{◌-◌}
use native.Mathlib.Omega.{arith}
use mathlib.Core.Path.{refl, sym, ◌∙◌, ap}
use Rattle.model.specs.Words.{columns}
use Rattle.model.specs.Tables.{tables, entries}
use Rattle.model.specs.Counters.{letters_allowed}
use Rattle.lists.proofs.Facts.{mail_usable, flow_rises}
use Rattle.lists.proofs.Told.{mail_placed}
use Rattle.rules.proofs.Entries.{name_starts, flow_order, mailed_at}
use Rattle.sent_letters.proofs.Found.{found_start, found_sent, found_end, entry_room, entry_number, wide_row}
use borrow.Author.Rules.{rules}
use Rattle.sent_letters.proofs.sent_letters.Goals as goal

pub clear-requires : goal.clear-requires
clear-requires c = rw c.letter_width-words.ensures c.requires.row

pub word-from-requires : goal.word-from-requires
word-from-requires c = omega (arith, c.requires.sent_tables.flow_starts.room, c.requires.sent_to.name)

pub overflow_add-m : goal.overflow_add-m
overflow_add-m c = omega (arith, c.requires.sent_tables.letter_tables.ready.limits.names, c.requires.sent_to.name)

pub word-to-requires : goal.word-to-requires
word-to-requires c = omega (arith, c.requires.sent_tables.flow_starts.room, c.requires.sent_to.name)

pub loop-i-init : goal.loop-i-init
loop-i-init c = let (e, f) = (name_starts c.requires.sent_tables.letter_tables.ready _ _ _ _ c.requires.sent_tables.flow_starts c.requires.sent_to.name c.word-from.ensures.0 c.word-to.ensures.0) in (search rules, (flow_order c.requires.sent_tables.letter_tables.ready _ _ _ e f).0, refl, found_start _ _ _ _ _ _ _ _ c.letter_width-words.ensures c.requires.row c.clear.ensures)

pub place-j-requires : goal.place-j-requires
place-j-requires c =
    let z = mail_usable c.requires.sent_tables.letter_tables.ready c.mail.result c.mail.ensures in record { held = z.0; ascending = z.1 }

pub entry_set-set-requires : goal.entry_set-set-requires
entry_set-set-requires c = record {
  within_limits = c.requires.sent_tables.letter_tables.ready.limits;
  j_lt_mails = (mailed_at c.requires.sent_tables.letter_tables.ready _ _ _ _ _ _ _ c.requires.sent_to.mailed (name_starts c.requires.sent_tables.letter_tables.ready _ _ _ _ c.requires.sent_tables.flow_starts c.requires.sent_to.name c.word-from.ensures.0 c.word-to.ensures.0).0 (name_starts c.requires.sent_tables.letter_tables.ready _ _ _ _ c.requires.sent_tables.flow_starts c.requires.sent_to.name c.word-from.ensures.0 c.word-to.ensures.0).1 (omega (arith, c.loop-i.invariant.0)) (omega (arith, c.loop-i.invariant.0, c.loop-i-test.true)) c.flow_value-v.ensures (mail_placed _ _ _ _ _ c.place-j.ensures c.mail.ensures)).0;
}

pub join_into-requires : goal.join_into-requires
unfolding tables entries columns
join_into-requires c = let (l, e, f) = (mailed_at c.requires.sent_tables.letter_tables.ready _ _ _ _ _ _ _ c.requires.sent_to.mailed (name_starts c.requires.sent_tables.letter_tables.ready _ _ _ _ c.requires.sent_tables.flow_starts c.requires.sent_to.name c.word-from.ensures.0 c.word-to.ensures.0).0 (name_starts c.requires.sent_tables.letter_tables.ready _ _ _ _ c.requires.sent_tables.flow_starts c.requires.sent_to.name c.word-from.ensures.0 c.word-to.ensures.0).1 (omega (arith, c.loop-i.invariant.0)) (omega (arith, c.loop-i.invariant.0, c.loop-i-test.true)) c.flow_value-v.ensures (mail_placed _ _ _ _ _ c.place-j.ensures c.mail.ensures)) in (wide_row _ _ _ c.letter_width-words.ensures c.loop-i.invariant.3.row, entry_room _ _ _ _ c.requires.sent_tables.letter_tables.letter_sets_of _ _ _ _ c.letter_width-words.ensures (entry_number _ _ _ _ c.entry_set-set.ensures) l e f)

pub loop-i-preserved : goal.loop-i-preserved
unfolding tables entries columns
loop-i-preserved c = let (l, e, f) = (mailed_at c.requires.sent_tables.letter_tables.ready _ _ _ _ _ _ _ c.requires.sent_to.mailed (name_starts c.requires.sent_tables.letter_tables.ready _ _ _ _ c.requires.sent_tables.flow_starts c.requires.sent_to.name c.word-from.ensures.0 c.word-to.ensures.0).0 (name_starts c.requires.sent_tables.letter_tables.ready _ _ _ _ c.requires.sent_tables.flow_starts c.requires.sent_to.name c.word-from.ensures.0 c.word-to.ensures.0).1 c.loop-i.invariant.0 (search rules) c.flow_value-v.ensures (mail_placed _ _ _ _ _ c.place-j.ensures c.mail.ensures)) in (search rules, search rules, c.join_into.ensures.long ∙ c.loop-i.invariant.2, found_sent _ _ _ _ c.requires.sent_tables.letter_tables.letter_sets_of _ _ _ _ c.letter_width-words.ensures (entry_number _ _ _ _ c.entry_set-set.ensures) l e f _ _ _ _ _ c.loop-i.invariant.0 (ap (letters_allowed _ _) (sym c.flow_value-v.ensures)) c.loop-i.invariant.3 c.join_into.ensures)

pub shape_of-found : goal.shape_of-found
shape_of-found c = c.loop-i.invariant.2 ∙ c.clear.ensures.long

pub returns : goal.returns
returns c = let (e, f) = (name_starts c.requires.sent_tables.letter_tables.ready _ _ _ _ c.requires.sent_tables.flow_starts c.requires.sent_to.name c.word-from.ensures.0 c.word-to.ensures.0) in found_end _ _ _ _ (flow_rises c.requires.sent_tables.letter_tables.ready) _ _ _ _ _ _ e f (search rules) c.loop-i.invariant.3
