use borrow.Author.Rules.{rules}
use Rattle.rules.proofs.States.{index_small}
use Rattle.plain_rules.proofs.into.Goals as goal

pub overflow_cast-result : goal.overflow_cast-result
overflow_cast-result c = search (index_small, rules)
