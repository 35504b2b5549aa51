use Rattle.rooms.specs.Rooms.{row_room}
use Rattle.rooms.proofs.Clearing.{cleared}
use Rattle.rooms.proofs.row_words16.Goals as goal

pub returns : goal.returns
returns c = cleared row_room
