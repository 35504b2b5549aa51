use Rattle.lists.proofs.Facts.{states_usable}
use Rattle.lists.proofs.Told.{return_told}
use Rattle.lists.proofs.state_return.Goals as goal

pub third-requires : goal.third-requires
third-requires c = (states_usable c.requires _ c.states.ensures).0

pub returns : goal.returns
returns c = return_told _ _ _ _ _ c.third.ensures c.states.ensures
