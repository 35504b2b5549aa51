use Rattle.lists.proofs.Facts.{flow_usable}
use Rattle.lists.proofs.Told.{flow_told}
use Rattle.lists.proofs.flow_value.Goals as goal

pub right-requires : goal.right-requires
right-requires c = (flow_usable c.requires _ c.flow.ensures).0

pub returns : goal.returns
returns c = flow_told _ _ _ _ _ c.right.ensures c.flow.ensures
