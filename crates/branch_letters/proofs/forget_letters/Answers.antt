use native.Mathlib.Omega.{arith}
use Rattle.model.specs.Words.{columns}
use Rattle.model.specs.Tables.{tables, entries}
use Rattle.branch_letters.proofs.Keeping.{owner_number, owners_room, forgotten}
use Rattle.branch_letters.proofs.forget_letters.Goals as goal

pub letter_width-words-requires : goal.letter_width-words-requires
letter_width-words-requires c = record { ready = c.requires.letter_tables.ready; class_letters = c.requires.letter_tables.class_letters }

pub overflow_mul-at : goal.overflow_mul-at
overflow_mul-at c = record { fits = let z = owners_room _ _ _ _ _ c.requires.owners_room c.read_set.ensures c.letter_width-words.ensures in omega arith }

pub clear_words-requires : goal.clear_words-requires
clear_words-requires c = owners_room _ _ _ _ _ c.requires.owners_room c.read_set.ensures c.letter_width-words.ensures

pub returns : goal.returns
unfolding tables entries columns
returns c =
    let z = forgotten _ _ _ _ _ c.requires.letter_tables.letter_sets_of c.requires.owners_room (owner_number _ _ 0 _ _ _ c.read_set.ensures c.letter_width-words.ensures (omega arith)) c.clear_words.ensures in record { letter_sets = z.0; reads = z.1 }
