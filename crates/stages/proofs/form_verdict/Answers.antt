-- Each return is the form of what the message has.
use Rattle.stages.specs.Order.{form_check}
use Rattle.stages.proofs.Answering.{by_ceilings, by_weights}
use Rattle.stages.proofs.form_verdict.Goals as goal

pub returns-then-s-eq0 : goal.returns-then-s-eq0
unfolding form_check
returns-then-s-eq0 c = by_ceilings _ _ _ _ c.if-s-eq0.true c.ceiling_check.ensures

pub returns : goal.returns
unfolding form_check
returns c = by_weights _ _ _ _ c.if-s-eq0.false c.weight_check.ensures
