use Rattle.model.specs.Words.{right, columns}
use Rattle.lists.specs.Lists.{listed}
use Rattle.lists.proofs.right.Goals as goal

pub returns : goal.returns
unfolding right listed columns
returns c = c.column.ensures
