use Rattle.masks.proofs.Masks.{has_alone}
use Rattle.masks.proofs.only.Goals as goal

pub returns : goal.returns
returns c = has_alone _ _ c.requires c.bit_in.ensures c.bit_in-2.ensures c.bit_in-3.ensures c.bit_in-4.ensures
