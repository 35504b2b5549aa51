use borrow.Author.Rules.{rules}
use Rattle.lists.specs.Lists.{flow_span}
use Rattle.lists.proofs.flow.Goals as goal

pub returns : goal.returns
unfolding flow_span
returns c = search rules
