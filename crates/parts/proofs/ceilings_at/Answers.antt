-- Each sum is far below the end of the numbers, by `Low-sizes`.
use borrow.Author.Rules.{rules}
use Rattle.model.specs.Message.{tables_offset, ceilings_offset}
use Rattle.parts.proofs.ceilings_at.Goals as goal

pub overflow_add-result : goal.overflow_add-result
unfolding tables_offset
overflow_add-result c = search rules

pub overflow_add-result-2 : goal.overflow_add-result-2
unfolding tables_offset
overflow_add-result-2 c = search rules

pub returns : goal.returns
unfolding tables_offset ceilings_offset
returns c = search rules
