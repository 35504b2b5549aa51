use Rattle.system_letters.proofs.Tables.{last_inside, count_told}
use Rattle.system_letters.proofs.letter_count.Goals as goal

pub word-requires : goal.word-requires
word-requires c = last_inside c.requires.ready _ c.requires.class_letters

pub returns : goal.returns
returns c = (count_told c.requires.ready _ c.requires.class_letters _ c.word.ensures.0, c.word.ensures.1)
