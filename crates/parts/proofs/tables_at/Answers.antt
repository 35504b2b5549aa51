-- Each sum is far below the end of the numbers, by `Low-sizes`.
use borrow.Author.Rules.{rules}
use Rattle.model.specs.Message.{bads_offset, tables_offset}
use Rattle.parts.proofs.tables_at.Goals as goal

pub overflow_add-result : goal.overflow_add-result
unfolding bads_offset
overflow_add-result c = search rules

pub overflow_add-result-2 : goal.overflow_add-result-2
unfolding bads_offset
overflow_add-result-2 c = search rules

pub returns : goal.returns
unfolding bads_offset tables_offset
returns c = search rules
