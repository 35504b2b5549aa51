use Rattle.rooms.specs.Rooms.{limit_room}
use Rattle.rooms.proofs.Clearing.{cleared}
use Rattle.rooms.proofs.limit_words.Goals as goal

pub returns : goal.returns
returns c = cleared limit_room
