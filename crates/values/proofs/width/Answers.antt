use borrow.Author.Rules.{rules}
use Rattle.values.specs.Values.{width}
use Rattle.values.proofs.width.Goals as goal

pub returns : goal.returns
unfolding width
returns c = search rules
