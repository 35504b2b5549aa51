use mathlib.Core.Path.{sym}
use Rattle.steps.proofs.Raising.{as_limit_below, as_limit_past}
use borrow.Author.Rules.{rules}
use Rattle.steps.proofs.as_limit.Goals as goal

pub returns-then-count-lt-OMEGA : goal.returns-then-count-lt-OMEGA
returns-then-count-lt-OMEGA c = sym (as_limit_below _ (search rules))

pub returns-else-count-lt-OMEGA : goal.returns-else-count-lt-OMEGA
returns-else-count-lt-OMEGA c = sym (as_limit_past _ (search rules))
