-- Where there are no lines the end is the word past the ceilings; each sum is far below the end of the numbers, by `Low-sizes`.
use native.Mathlib.Omega.{arith}
use mathlib.Core.Path.{sym, ◌∙◌}
use borrow.Author.Rules.{rules}
use Rattle.model.specs.Message.{ceilings_offset, weights_offset}
use Rattle.model.proofs.Exact.Parts.{end_none, end_some}
use Rattle.parts.proofs.end_at.Goals as goal

pub overflow_add-result : goal.overflow_add-result
unfolding weights_offset ceilings_offset
overflow_add-result c = search rules

pub overflow_add-result-else-s-eq0 : goal.overflow_add-result-else-s-eq0
unfolding weights_offset ceilings_offset
overflow_add-result-else-s-eq0 c = search rules

pub returns-then-s-eq0 : goal.returns-then-s-eq0
returns-then-s-eq0 c = c.weights_at-at.ensures ∙ sym (end_none _ (omega (arith, c.if-s-eq0.true)))

pub returns-else-s-eq0 : goal.returns-else-s-eq0
returns-else-s-eq0 c = let z = end_some c.args.s (omega (arith, c.if-s-eq0.false)) in search rules
