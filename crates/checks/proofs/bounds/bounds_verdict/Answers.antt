-- Each return is what follows the form of what the message has.
use native.Mathlib.Omega.{arith}
use Rattle.stages.specs.Order.{below_bounds}
use Rattle.stages.proofs.Answering.{by_ceilings, by_weights}
use Rattle.checks.proofs.Laying.{numbered, lined}
use Rattle.checks.proofs.bounds.bounds_verdict.Goals as goal

pub ceilings_verdict-requires : goal.ceilings_verdict-requires
ceilings_verdict-requires c = record { le_most = omega arith; joined_tables = c.requires.joined_tables; numbered = numbered _ _ _ c.requires.formed c.if-s-eq0.true }

pub returns-then-s-eq0 : goal.returns-then-s-eq0
unfolding below_bounds
returns-then-s-eq0 c = record { value = by_ceilings _ _ _ _ c.if-s-eq0.true c.ceilings_verdict.ensures.value; lent_after = c.ceilings_verdict.ensures.lent_after }

pub weights_verdict-requires : goal.weights_verdict-requires
weights_verdict-requires c = record { le_most = omega arith; joined_tables = c.requires.joined_tables; lined = lined _ _ _ c.requires.formed (omega (arith, c.if-s-eq0.false)) }

pub returns : goal.returns
unfolding below_bounds
returns c = record { value = by_weights _ _ _ _ c.if-s-eq0.false c.weights_verdict.ensures.value; lent_after = c.weights_verdict.ensures.lent_after }
