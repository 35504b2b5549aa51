use Rattle.lists.proofs.Facts.{states_usable, state_found}
use Rattle.lists.proofs.state_index.Goals as goal

pub find-requires : goal.find-requires
find-requires c =
    let z = states_usable c.requires c.states.result c.states.ensures in record { held = z.0; ascending = z.1 }

pub returns : goal.returns
returns c = state_found _ _ _ _ _ _ _ c.states.ensures c.find.ensures
