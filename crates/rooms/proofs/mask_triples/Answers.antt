use Rattle.rooms.specs.Rooms.{mask_triples_of}
use Rattle.rooms.proofs.Clearing.{cleared}
use Rattle.rooms.proofs.mask_triples.Goals as goal

pub returns : goal.returns
returns c = cleared mask_triples_of
