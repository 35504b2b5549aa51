use mathlib.Core.Path.{◌∙◌}
use Rattle.steps.proofs.Stepping.{less_pass, less_fail}
use borrow.Author.Rules.{rules}
use Rattle.steps.proofs.less_if.Goals as goal

pub returns-then-test : goal.returns-then-test
returns-then-test c = c.one_less.ensures ∙ less_pass _ _ (search rules)

pub returns-else-test : goal.returns-else-test
returns-else-test c = less_fail _ _ (search rules)
