use Rattle.masks.proofs.Masks.{none_in}
use borrow.Author.Rules.{rules}
use Rattle.masks.proofs.is_none.Goals as goal

pub returns : goal.returns
returns c = none_in _ (search rules) (search rules) (search rules) (search rules)
