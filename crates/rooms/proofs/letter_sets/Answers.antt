use Rattle.rooms.specs.Rooms.{letter_sets_of}
use Rattle.rooms.proofs.Clearing.{cleared}
use Rattle.rooms.proofs.letter_sets.Goals as goal

pub returns : goal.returns
returns c = cleared letter_sets_of
