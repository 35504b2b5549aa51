use Rattle.letter_sets.proofs.Filling.{room_still}
use Rattle.letter_sets.proofs.Filled.{letters_filled}
use Rattle.letter_sets.proofs.fill_letters.Goals as goal

pub fill_digits-requires : goal.fill_digits-requires
fill_digits-requires c =
    let k = c.requires.letters_known in
    record {
      letters_listed = record { ready = k.heads.ready; class_letters = k.class_letters; coded = k.coded };
      letter_room = c.requires.letters_empty.room;
    }

pub fill_allowed-requires : goal.fill_allowed-requires
fill_allowed-requires c = record { letters_known = c.requires.letters_known; letter_room = room_still c.requires.letters_known.heads.ready _ _ _ _ c.fill_digits.ensures c.requires.letters_empty.room }

pub returns : goal.returns
returns c = letters_filled c.requires.letters_known _ _ _ c.requires.letters_empty c.fill_digits.ensures c.fill_allowed.ensures
