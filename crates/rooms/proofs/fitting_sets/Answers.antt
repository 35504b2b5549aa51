use Rattle.rooms.specs.Rooms.{fitting_sets_of}
use Rattle.rooms.proofs.Clearing.{cleared}
use Rattle.rooms.proofs.fitting_sets.Goals as goal

pub returns : goal.returns
returns c = cleared fitting_sets_of
