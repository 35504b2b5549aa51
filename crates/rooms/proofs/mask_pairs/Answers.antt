use Rattle.rooms.specs.Rooms.{mask_pairs_of}
use Rattle.rooms.proofs.Clearing.{cleared}
use Rattle.rooms.proofs.mask_pairs.Goals as goal

pub returns : goal.returns
returns c = cleared mask_pairs_of
