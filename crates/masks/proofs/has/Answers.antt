use Rattle.masks.proofs.Masks.{has_read}
use Rattle.masks.proofs.has.Goals as goal

pub returns : goal.returns
returns c = has_read _ _ _ c.word.ensures
