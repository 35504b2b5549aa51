use Rattle.masks.proofs.Masks.{below_is}
use Rattle.masks.proofs.below.Goals as goal

pub returns : goal.returns
returns c = below_is _ _ _ _ _ c.low_ones.ensures c.saturating_sub.ensures c.low_ones-2.ensures c.saturating_sub-2.ensures c.low_ones-3.ensures c.saturating_sub-3.ensures c.low_ones-4.ensures
