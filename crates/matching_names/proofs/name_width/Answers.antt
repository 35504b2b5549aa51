use borrow.Author.Rules.{rules}
use Rattle.values.specs.Values.{width}
use Rattle.matching_names.proofs.name_width.Goals as goal

pub returns : goal.returns
unfolding width
returns c = search rules
