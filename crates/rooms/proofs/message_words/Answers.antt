use Rattle.model.specs.Message.{max_words}
use Rattle.rooms.proofs.Clearing.{cleared}
use Rattle.rooms.proofs.message_words.Goals as goal

pub returns : goal.returns
returns c = cleared max_words
