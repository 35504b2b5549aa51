use borrow.Author.Rules.{rules}
use Rattle.model.specs.Message.{tables_offset}
use Rattle.lists.specs.Lists.{span_at}
use Rattle.lists.proofs.entries.Goals as goal

pub overflow_add-at : goal.overflow_add-at
unfolding tables_offset
overflow_add-at c = search rules

pub overflow_add-result : goal.overflow_add-result
unfolding tables_offset
overflow_add-result c = search rules

pub overflow_add-result-4 : goal.overflow_add-result-4
unfolding tables_offset
overflow_add-result-4 c = search rules

pub overflow_add-result-5 : goal.overflow_add-result-5
unfolding tables_offset
overflow_add-result-5 c = search rules

pub returns : goal.returns
unfolding span_at
returns c = rw c.tables_at-at.ensures
