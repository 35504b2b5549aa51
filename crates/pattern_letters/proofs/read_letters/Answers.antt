use mathlib.Core.Bool.{not}
use mathlib.Core.Path.{ap}
use Prim.Native.Nat.{◌-◌}
use native.Mathlib.Omega.{arith}
use mathlib.Core.Path.{refl, sym, ◌∙◌}
use Rattle.model.specs.Words.{columns}
use Rattle.model.specs.Tables.{tables, entries}
use Rattle.lists.proofs.Facts.{mail_rises}
use Rattle.system_letters.proofs.Tables.{head_low}
use Rattle.rules.proofs.Entries.{mail_order, mail_low, mail_class}
use Rattle.sent_letters.proofs.Found.{row_kept, wide_row, found_start, found_end, entry_room, entry_number}
use Rattle.pattern_letters.proofs.Lessening.{found_passed, found_hollow, found_read}
use borrow.Author.Rules.{rules}
use Rattle.pattern_letters.proofs.read_letters.Goals as goal

pub letter_width-words-requires : goal.letter_width-words-requires
letter_width-words-requires c = record { ready = c.requires.pattern_tables.match_tables.ready; class_letters = c.requires.pattern_tables.letter_tables.class_letters }

pub clear-requires : goal.clear-requires
clear-requires c = wide_row _ _ _ c.letter_width-words.ensures c.requires.read_room.found_row

pub mail_from-from-requires : goal.mail_from-from-requires
mail_from-from-requires c = c.requires.pattern_tables.match_tables.ready

pub mail_to-to-requires : goal.mail_to-to-requires
mail_to-to-requires c = record { ready = c.requires.pattern_tables.match_tables.ready; c_le_rows = c.requires.read_room.class }

pub loop-j-init : goal.loop-j-init
loop-j-init c = (search rules, (mail_order c.requires.pattern_tables.match_tables.ready _ _ _ c.mail_from-from.ensures c.mail_to-to.ensures).0, refl, refl, found_start _ _ _ _ _ _ _ _ c.letter_width-words.ensures c.requires.read_room.found_row c.clear.ensures)

pub mail_value-v-requires : goal.mail_value-v-requires
mail_value-v-requires c = c.requires.pattern_tables.match_tables.ready

pub begins-requires : goal.begins-requires
begins-requires c = record {
  ready = c.requires.pattern_tables.match_tables.ready;
  name_heads = c.requires.pattern_tables.match_tables.name_heads;
  pattern = c.requires.read_room.pattern;
  v_le_rows = mail_low c.requires.pattern_tables.match_tables.ready _ _ _ c.mail_from-from.ensures c.mail_to-to.ensures _ _ (search rules) c.mail_value-v.ensures;
}

pub overflow_step-j : goal.overflow_step-j
overflow_step-j c = omega (arith, (mail_order c.requires.pattern_tables.match_tables.ready _ _ _ c.mail_from-from.ensures c.mail_to-to.ensures).1, c.requires.pattern_tables.match_tables.ready.limits.mails)

pub loop-j-preserved-then-not-begins : goal.loop-j-preserved-then-not-begins
loop-j-preserved-then-not-begins c = (search rules, search rules, c.loop-j.invariant.2, c.loop-j.invariant.3, found_passed _ _ (head_low c.requires.pattern_tables.match_tables.ready) _ _ _ _ _ c.loop-j.invariant.0 c.mail_value-v.ensures _ _ c.begins.ensures (ap not c.if-not-begins.true) c.loop-j.invariant.4)

pub entry_set-allowed-requires : goal.entry_set-allowed-requires
entry_set-allowed-requires c = record {
  within_limits = c.requires.pattern_tables.match_tables.ready.limits;
  j_lt_mails = (omega (arith, (mail_order c.requires.pattern_tables.match_tables.ready _ _ _ c.mail_from-from.ensures c.mail_to-to.ensures).1));
}

pub meets-requires : goal.meets-requires
unfolding tables entries columns
meets-requires c = (entry_room _ _ _ _ c.requires.pattern_tables.letter_tables.letter_sets_of _ _ _ _ c.letter_width-words.ensures (entry_number _ _ _ _ c.entry_set-allowed.ensures) (omega (arith, (mail_order c.requires.pattern_tables.match_tables.ready _ _ _ c.mail_from-from.ensures c.mail_to-to.ensures).1)) (mail_class c.requires.pattern_tables.match_tables.ready _ _ _ c.mail_from-from.ensures c.mail_to-to.ensures _ (omega (arith, c.loop-j.invariant.0)) (omega (arith, c.loop-j.invariant.0, c.loop-j-test.true))) refl, entry_room _ _ _ _ c.requires.pattern_tables.letter_tables.letter_sets_of _ _ _ _ c.letter_width-words.ensures (entry_number _ _ _ _ c.entry_set-allowed.ensures) (omega (arith, (mail_order c.requires.pattern_tables.match_tables.ready _ _ _ c.mail_from-from.ensures c.mail_to-to.ensures).1)) (mail_class c.requires.pattern_tables.match_tables.ready _ _ _ c.mail_from-from.ensures c.mail_to-to.ensures _ (omega (arith, c.loop-j.invariant.0)) (omega (arith, c.loop-j.invariant.0, c.loop-j-test.true))) refl)

pub overflow_step-j-then-not-meets : goal.overflow_step-j-then-not-meets
overflow_step-j-then-not-meets c = omega (arith, (mail_order c.requires.pattern_tables.match_tables.ready _ _ _ c.mail_from-from.ensures c.mail_to-to.ensures).1, c.requires.pattern_tables.match_tables.ready.limits.mails)

pub loop-j-preserved-then-not-meets : goal.loop-j-preserved-then-not-meets
unfolding tables entries columns
loop-j-preserved-then-not-meets c = (search rules, search rules, c.loop-j.invariant.2, c.loop-j.invariant.3, found_hollow _ _ (head_low c.requires.pattern_tables.match_tables.ready) _ _ _ _ _ c.loop-j.invariant.0 c.mail_value-v.ensures _ c.requires.pattern_tables.letter_tables.letter_sets_of _ _ c.letter_width-words.ensures (entry_number _ _ _ _ c.entry_set-allowed.ensures) (omega (arith, (mail_order c.requires.pattern_tables.match_tables.ready _ _ _ c.mail_from-from.ensures c.mail_to-to.ensures).1)) (mail_class c.requires.pattern_tables.match_tables.ready _ _ _ c.mail_from-from.ensures c.mail_to-to.ensures _ c.loop-j.invariant.0 (search rules)) _ _ c.meets.ensures (ap not c.if-not-meets.true) c.loop-j.invariant.4)

pub copy_into-requires : goal.copy_into-requires
unfolding tables entries columns
copy_into-requires c = (wide_row _ _ _ c.letter_width-words.ensures (row_kept _ _ _ _ c.requires.read_room.part_row c.loop-j.invariant.3), entry_room _ _ _ _ c.requires.pattern_tables.letter_tables.letter_sets_of _ _ _ _ c.letter_width-words.ensures (entry_number _ _ _ _ c.entry_set-allowed.ensures) (omega (arith, (mail_order c.requires.pattern_tables.match_tables.ready _ _ _ c.mail_from-from.ensures c.mail_to-to.ensures).1)) (mail_class c.requires.pattern_tables.match_tables.ready _ _ _ c.mail_from-from.ensures c.mail_to-to.ensures _ (omega (arith, c.loop-j.invariant.0)) (omega (arith, c.loop-j.invariant.0, c.loop-j-test.true))) refl)

pub leave_letters-requires : goal.leave_letters-requires
leave_letters-requires c = record {
  leaving_tables = record { match_tables = c.requires.pattern_tables.match_tables; letter_sets_of = c.requires.pattern_tables.letter_tables.letter_sets_of; wide = c.letter_width-words.ensures };
  ends = c.requires.pattern_tables.ends;
  pattern = (c.requires.read_room.pattern, sym c.begins.ensures ∙ c.if-not-begins.false, wide_row _ _ _ c.letter_width-words.ensures (row_kept _ _ _ _ c.requires.read_room.part_row (c.copy_into.ensures.long ∙ c.loop-j.invariant.3)));
}

pub join_into-requires : goal.join_into-requires
join_into-requires c = (wide_row _ _ _ c.letter_width-words.ensures c.loop-j.invariant.4.row, wide_row _ _ _ c.letter_width-words.ensures c.leave_letters.ensures.row)

pub overflow_step-j-in-loop-j : goal.overflow_step-j-in-loop-j
overflow_step-j-in-loop-j c = omega (arith, (mail_order c.requires.pattern_tables.match_tables.ready _ _ _ c.mail_from-from.ensures c.mail_to-to.ensures).1, c.requires.pattern_tables.match_tables.ready.limits.mails)

pub loop-j-preserved : goal.loop-j-preserved
unfolding tables entries columns
loop-j-preserved c = (omega (arith, c.loop-j.invariant.0), search rules, c.join_into.ensures.long ∙ c.loop-j.invariant.2, c.leave_letters.ensures.long ∙ (c.copy_into.ensures.long ∙ c.loop-j.invariant.3), found_read _ _ (head_low c.requires.pattern_tables.match_tables.ready) _ _ _ _ _ c.loop-j.invariant.0 c.mail_value-v.ensures _ c.requires.pattern_tables.letter_tables.letter_sets_of _ _ c.letter_width-words.ensures (entry_number _ _ _ _ c.entry_set-allowed.ensures) (omega (arith, (mail_order c.requires.pattern_tables.match_tables.ready _ _ _ c.mail_from-from.ensures c.mail_to-to.ensures).1)) (mail_class c.requires.pattern_tables.match_tables.ready _ _ _ c.mail_from-from.ensures c.mail_to-to.ensures _ c.loop-j.invariant.0 (search rules)) _ _ _ _ _ _ c.begins.ensures (ap not c.if-not-begins.false) c.loop-j.invariant.4 c.copy_into.ensures c.leave_letters.ensures c.join_into.ensures)

pub shape_of-part : goal.shape_of-part
shape_of-part c = c.loop-j.invariant.3

pub shape_of-found : goal.shape_of-found
shape_of-found c = c.loop-j.invariant.2 ∙ c.clear.ensures.long

pub returns : goal.returns
returns c = found_end _ _ _ _ (mail_rises c.requires.pattern_tables.match_tables.ready) _ _ _ _ _ _ c.mail_from-from.ensures c.mail_to-to.ensures (search rules) c.loop-j.invariant.4
