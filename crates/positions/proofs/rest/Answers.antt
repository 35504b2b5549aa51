use Rattle.lists.proofs.Facts.{fitted}
use Rattle.positions.proofs.Placed.{head_inside}
use Rattle.positions.proofs.rest.Goals as goal

pub rest_of-requires : goal.rest_of-requires
rest_of-requires c = record { fitted = fitted c.requires.ready; ends = (c.requires.ends, head_inside c.requires.ready _ c.requires.r_value) }
