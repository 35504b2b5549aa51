use Rattle.ceilings_masks.proofs.Comparing.{mask_of}
use Rattle.ceilings_masks.proofs.limits_from.Goals as goal

pub returns : goal.returns
returns c = mask_of _ _ c.word_from-a.ensures c.word_from-b.ensures c.word_from-c.ensures c.word_from-d.ensures
