use Rattle.ceilings_form.proofs.Limited.{highest_omega, highest_limit}
use borrow.Author.Rules.{rules}
use Rattle.ceilings.proofs.highest.Goals as goal

pub returns-then-most-eq-OMEGA : goal.returns-then-most-eq-OMEGA
returns-then-most-eq-OMEGA c = record { value = highest_omega _ _ _ c.limit-most.ensures.value (search rules); upper_bound = search rules }

pub returns-else-most-eq-OMEGA : goal.returns-else-most-eq-OMEGA
returns-else-most-eq-OMEGA c = record { value = highest_limit _ _ _ c.limit-most.ensures.value c.if-most-eq-OMEGA.false; upper_bound = search rules }
