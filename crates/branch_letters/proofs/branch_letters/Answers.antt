use native.Mathlib.Omega.{arith}
use Rattle.model.specs.Words.{columns}
use Rattle.model.specs.Rows.{program}
use Rattle.model.specs.Tables.{tables, entries}
use Rattle.matching.proofs.Subpatterns.{pattern_within}
use Rattle.sent_letters.proofs.Found.{wide_row}
use Rattle.branch_letters.proofs.Keeping.{read_number, read_row, found_kept, kept_tables}
use Rattle.branch_letters.proofs.branch_letters.Goals as goal

pub is_kept-requires : goal.is_kept-requires
unfolding program columns
is_kept-requires c = record { kept_tables = kept_tables c.requires.read_tables; q_lt_rows = pattern_within c.requires.read_room.pattern }

pub letter_width-words-requires : goal.letter_width-words-requires
letter_width-words-requires c = record {
  ready = c.requires.read_tables.pattern_tables.match_tables.ready;
  class_letters = c.requires.read_tables.pattern_tables.letter_tables.class_letters;
}

pub read_set-set-requires : goal.read_set-set-requires
unfolding tables entries columns
read_set-set-requires c = record {
  within_limits = c.requires.read_tables.pattern_tables.match_tables.ready.limits;
  x_le_states = let z = (c.is_kept.ensures c.if-is_kept.true).low in omega arith;
}

pub copy_into-requires : goal.copy_into-requires
copy_into-requires c = (wide_row _ _ _ c.letter_width-words.ensures c.requires.read_room.found_row, read_row _ _ _ c.requires.read_tables.reads _ _ _ (c.is_kept.ensures c.if-is_kept.true).low c.letter_width-words.ensures (read_number _ _ _ _ c.read_set-set.ensures))

pub returns-then-is_kept : goal.returns-then-is_kept
returns-then-is_kept c = found_kept _ _ _ _ _ _ _ _ _ _ c.requires.read_tables.reads (c.is_kept.ensures c.if-is_kept.true) c.letter_width-words.ensures (read_number _ _ _ _ c.read_set-set.ensures) c.requires.read_room.found_row c.copy_into.ensures

pub read_letters-requires : goal.read_letters-requires
read_letters-requires c = record { pattern_tables = c.requires.read_tables.pattern_tables; read_room = c.requires.read_room }
