use Rattle.rooms.specs.Rooms.{name_sets_of}
use Rattle.rooms.proofs.Clearing.{cleared}
use Rattle.rooms.proofs.name_sets.Goals as goal

pub returns : goal.returns
returns c = cleared name_sets_of
