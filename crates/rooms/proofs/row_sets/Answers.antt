use Rattle.rooms.specs.Rooms.{row_sets_of}
use Rattle.rooms.proofs.Clearing.{cleared}
use Rattle.rooms.proofs.row_sets.Goals as goal

pub returns : goal.returns
returns c = cleared row_sets_of
