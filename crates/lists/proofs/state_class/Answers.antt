use Rattle.lists.proofs.Facts.{states_usable}
use Rattle.lists.proofs.Told.{class_told}
use Rattle.lists.proofs.state_class.Goals as goal

pub left-requires : goal.left-requires
left-requires c = (states_usable c.requires _ c.states.ensures).0

pub returns : goal.returns
returns c = class_told _ _ _ _ _ c.left.ensures c.states.ensures
