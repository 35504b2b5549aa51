use Rattle.lists.specs.Lists.{head_to}
use Rattle.lists.proofs.Facts.{states_usable}
use Rattle.lists.proofs.Told.{states_placed}
use Rattle.lists.proofs.heads_to.Goals as goal

pub place-requires : goal.place-requires
place-requires c =
    let z = states_usable c.requires.ready _ c.states.ensures in record { held = z.0; ascending = z.1 }

pub returns : goal.returns
unfolding head_to
returns c = states_placed _ _ _ _ _ c.place.ensures c.states.ensures
