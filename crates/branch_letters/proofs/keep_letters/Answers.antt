use native.Mathlib.Omega.{arith}
use Rattle.model.specs.Words.{columns}
use Rattle.model.specs.Tables.{tables, entries}
use Rattle.branch_letters.proofs.Keeping.{read_number, read_row, kept_all}
use mathlib.Core.Path.{refl}
use Rattle.branch_letters.proofs.keep_letters.Goals as goal

pub owner_at-at-requires : goal.owner_at-at-requires
unfolding tables entries columns
owner_at-at-requires c = record { ready = c.requires.kept_tables.letter_tables.ready; owners_room = record { room = c.requires.kept_tables.reads.room }; words_value = c.letter_width-words.ensures; x_lt_states = c.requires.x_lt_states.0 }

pub overflow_mul-set : goal.overflow_mul-set
unfolding tables entries columns
overflow_mul-set c = record { fits = let z = (read_row _ _ _ c.requires.kept_tables.reads _ _ _ c.requires.x_lt_states.0 c.letter_width-words.ensures (read_number _ _ _ _ c.read_set-set.ensures)).room in omega arith }

pub put_words-requires : goal.put_words-requires
unfolding tables entries columns
put_words-requires c = record {
  words_in_bounds = let z = c.requires.found.row.room in omega (arith, c.letter_width-words.ensures);
  words_in_bounds_2 = let z = (read_row _ _ _ c.requires.kept_tables.reads _ _ _ c.requires.x_lt_states.0 c.letter_width-words.ensures (read_number _ _ _ _ c.read_set-set.ensures)).room in omega arith;
}

pub returns : goal.returns
unfolding tables entries columns
returns c =
    let z = kept_all _ _ _ _ _ _ _ _ _ c.requires.kept_tables.letter_tables.letter_sets_of c.requires.kept_tables.reads c.requires.x_lt_states.0 c.requires.x_lt_states.1 c.requires.found _ _ _ _ refl c.letter_width-words.ensures (read_number _ _ _ _ c.read_set-set.ensures) c.owner_at-at.ensures.0 refl c.put_words.ensures in record { letter_sets = z.0; reads = z.1 }
