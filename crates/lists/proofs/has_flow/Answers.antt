use Rattle.lists.proofs.Facts.{flow_usable, flow_found}
use Rattle.lists.proofs.has_flow.Goals as goal

pub find-requires : goal.find-requires
find-requires c =
    let z = flow_usable c.requires c.flow.result c.flow.ensures in record { held = z.0; ascending = z.1 }

pub returns : goal.returns
returns c = flow_found _ _ _ _ _ _ c.flow.ensures c.find.ensures
