use Rattle.system_letters.proofs.Tables.{width_told}
use Rattle.system_letters.proofs.letter_width.Goals as goal

pub returns : goal.returns
returns c = width_told c.requires.ready _ c.requires.class_letters _ c.letter_count.ensures.0
