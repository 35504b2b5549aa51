-- The two tests are the two of `goes_on`; the second is made where the first passes.
use borrow.Author.Rules.{rules}
use borrow.Author.Tests.{eq-eqb, ne_eqb}
use Rattle.model.specs.Message.{ceilings_offset, weights_offset, goes_on}
use Rattle.message.proofs.goes_on.Goals as goal

pub overflow_mul-result : goal.overflow_mul-result
unfolding weights_offset ceilings_offset
overflow_mul-result c = search rules

pub returns-then-s-eq0 : goal.returns-then-s-eq0
unfolding goes_on
returns-then-s-eq0 c = rw (eq-eqb _ _ c.if-s-eq0.true, ← c.weights_at.ensures)

pub returns-else-s-eq0 : goal.returns-else-s-eq0
unfolding goes_on
returns-else-s-eq0 c = rw (ne_eqb _ _ c.if-s-eq0.false)
