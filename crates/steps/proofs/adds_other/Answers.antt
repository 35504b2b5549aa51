use borrow.Author.Tests.{le-leb, lt-leb}
use Rattle.steps.specs.Steps.{does_add_other}
use Rattle.model.proofs.Logic.{and_first, and_second}
use Rattle.steps.proofs.adds_other.Goals as goal

pub returns-then-step-ge2 : goal.returns-then-step-ge2
unfolding does_add_other
returns-then-step-ge2 c = and_second _ _ (le-leb _ _ c.if-step-ge2.true)

pub returns-else-step-ge2 : goal.returns-else-step-ge2
unfolding does_add_other
returns-else-step-ge2 c = and_first _ _ (lt-leb _ _ c.if-step-ge2.false)
