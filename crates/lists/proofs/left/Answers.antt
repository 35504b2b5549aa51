use Rattle.model.specs.Words.{left, columns}
use Rattle.lists.specs.Lists.{listed}
use Rattle.lists.proofs.left.Goals as goal

pub returns : goal.returns
unfolding left listed columns
returns c = c.column.ensures
