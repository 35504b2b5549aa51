use borrow.Author.Tests.{eq-eqb, ne_eqb}
use Rattle.steps.specs.Steps.{does_take_other}
use Rattle.model.proofs.Logic.{and_first, and_second}
use Rattle.steps.proofs.takes_other.Goals as goal

pub returns-then-step-eq1 : goal.returns-then-step-eq1
unfolding does_take_other
returns-then-step-eq1 c = and_second _ _ (eq-eqb _ _ c.if-step-eq1.true)

pub returns-else-step-eq1 : goal.returns-else-step-eq1
unfolding does_take_other
returns-else-step-eq1 c = and_first _ _ (ne_eqb _ _ c.if-step-eq1.false)
