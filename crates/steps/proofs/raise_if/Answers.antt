use mathlib.Core.Path.{◌∙◌}
use Rattle.steps.proofs.Raising.{raise_pass, raise_fail}
use borrow.Author.Rules.{rules}
use Rattle.steps.proofs.raise_if.Goals as goal

pub returns-then-test : goal.returns-then-test
returns-then-test c = c.raised.ensures.value ∙ raise_pass _ _ (search rules)

pub returns-else-test : goal.returns-else-test
returns-else-test c = raise_fail _ _ (search rules)
