use Rattle.bits.proofs.Rows.{filled_start, filled_over, renewed_next, renewed_set}
use borrow.Author.Rules.{rules}
use Rattle.sets.proofs.renew.Goals as goal

pub loop-z-init : goal.loop-z-init
loop-z-init c = filled_start _ _ _

pub loop-z-preserved : goal.loop-z-preserved
loop-z-preserved c = renewed_next _ _ _ _ _ _ _ _ c.loop-z.invariant (search rules)

pub returns : goal.returns
returns c = filled_over _ _ _ _ _ _ _ c.loop-z.invariant (search rules) (λ z k _ h. renewed_set _ _ _ _ _ _ _ z k h)
