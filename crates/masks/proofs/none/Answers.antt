use Rattle.masks.proofs.Masks.{has_nothing}
use Rattle.masks.proofs.none.Goals as goal

pub returns : goal.returns
returns c = has_nothing
