use Rattle.rooms.specs.Rooms.{rule_words}
use Rattle.rooms.proofs.Clearing.{cleared}
use Rattle.rooms.proofs.rule_words16.Goals as goal

pub returns : goal.returns
returns c = cleared rule_words
