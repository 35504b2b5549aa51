use Rattle.model.specs.Rows.{receive}
use Rattle.rules.proofs.Adding.{added_same}
use Rattle.lettered_rules.proofs.Letters.{letter_room}
use Rattle.lettered_rules.proofs.Turns.{read_asked}
use borrow.Author.Rules.{rules}
use Rattle.lettered_rules.proofs.read_rules.Goals as goal

pub branch_letters-requires : goal.branch_letters-requires
branch_letters-requires c = record {
  read_tables = c.requires.read_tables;
  read_room = record { class = c.requires.class_room.value; pattern = c.requires.pattern; part_row = c.requires.class_room.part_row; found_row = c.requires.class_room.found_row };
}

pub class_rules-requires : goal.class_rules-requires
class_rules-requires c =
    let z = letter_room c.requires.read_tables.pattern_tables.letter_tables.ready _ _ _ _ _ _ _ _ _ c.requires.read_tables.pattern_tables.letter_tables c.requires.class_room _ c.letter_width-words.ensures _ _ (search rules) (search rules) in record { letter_room = z.0; row = z.1 }

pub returns : goal.returns
returns c = record {
  by_index = λ f o. added_same receive _ _ _ _ _ _ _ _ (c.class_rules.ensures.added receive) (read_asked _ _ c.requires.read_tables.pattern_tables.letter_tables _ c.letter_width-words.ensures _ _ f o _ _ c.requires.class_room.value _ c.branch_letters.ensures);
  c_bound = c.class_rules.ensures.d_bound;
}
