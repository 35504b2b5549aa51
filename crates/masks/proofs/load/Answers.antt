use Rattle.masks.proofs.Masks.{loaded}
use Rattle.masks.proofs.load.Goals as goal

pub returns : goal.returns
returns c = loaded _ _ _ c.word_of.ensures c.word_of-2.ensures c.word_of-3.ensures c.word_of-4.ensures
