use Rattle.ceilings_covers.proofs.Covering.{sure_reads, sure_stays, sure_moves, sure_back, sure_adds}
use Rattle.ceilings_covers.proofs.is_sure.Goals as goal

pub returns-then-step-eq1 : goal.returns-then-step-eq1
returns-then-step-eq1 c = sure_reads _ c.if-step-eq1.true

pub returns-then-step : goal.returns-then-step
returns-then-step c = sure_stays _ c.if-step-eq1.false c.if-step.true

pub returns-then-step-lt2 : goal.returns-then-step-lt2
returns-then-step-lt2 c = sure_moves _ c.if-step-eq1.false c.if-step.false c.if-step-lt2.true

pub returns-then-step-2 : goal.returns-then-step-2
returns-then-step-2 c = sure_back _ c.if-step-eq1.false c.if-step.false c.if-step-lt2.false c.if-step-2.true

pub returns : goal.returns
returns c = sure_adds _ c.if-step-eq1.false c.if-step.false c.if-step-lt2.false c.if-step-2.false
