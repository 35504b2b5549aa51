use Rattle.lists.proofs.Facts.{states_usable}
use Rattle.lists.proofs.Told.{states_told}
use Rattle.lists.proofs.state_location.Goals as goal

pub right-requires : goal.right-requires
right-requires c = (states_usable c.requires _ c.states.ensures).0

pub returns : goal.returns
returns c = states_told _ _ _ _ _ c.right.ensures c.states.ensures
