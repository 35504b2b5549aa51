use borrow.Author.Tests.{eq-eqb, ne_eqb}
use Rattle.model.specs.Ceilings.{allowed}
use Rattle.model.proofs.Logic.{or_first, or_second}
use Rattle.ceilings_form.proofs.limits.is_allowed.Goals as goal

pub returns-then-limit-eq-OMEGA : goal.returns-then-limit-eq-OMEGA
unfolding allowed
returns-then-limit-eq-OMEGA c = or_first _ _ (eq-eqb _ _ c.if-limit-eq-OMEGA.true)

pub returns-else-limit-eq-OMEGA : goal.returns-else-limit-eq-OMEGA
unfolding allowed
returns-else-limit-eq-OMEGA c = or_second _ _ (ne_eqb _ _ c.if-limit-eq-OMEGA.false)
