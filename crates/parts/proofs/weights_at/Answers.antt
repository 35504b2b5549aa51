-- Each sum is far below the end of the numbers, by `Low-sizes`.
use borrow.Author.Rules.{rules}
use Rattle.model.specs.Message.{ceilings_offset, weights_offset}
use Rattle.parts.proofs.weights_at.Goals as goal

pub overflow_add-result : goal.overflow_add-result
unfolding ceilings_offset
overflow_add-result c = search rules

pub overflow_add-result-2 : goal.overflow_add-result-2
unfolding ceilings_offset
overflow_add-result-2 c = search rules

pub returns : goal.returns
unfolding ceilings_offset weights_offset
returns c = search rules
