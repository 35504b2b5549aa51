use Rattle.rooms.specs.Rooms.{letter_codes_of}
use Rattle.rooms.proofs.Clearing.{cleared}
use Rattle.rooms.proofs.letter_codes.Goals as goal

pub returns : goal.returns
returns c = cleared letter_codes_of
