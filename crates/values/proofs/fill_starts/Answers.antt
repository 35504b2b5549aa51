use native.Mathlib.Omega.{arith}
use mathlib.Core.Path.{refl}
use borrow.Author.Rules.{rules}
use Rattle.model.specs.Words.{columns}
use Rattle.lists.specs.Lists.{listed}
use Rattle.lists.proofs.Facts.{flow_usable}
use Rattle.values.proofs.Starts.{begun, begun_next, begun_over, reach_low}
use Rattle.values.proofs.fill_starts.Goals as goal

pub loop-n-init : goal.loop-n-init
loop-n-init c = (begun _ _, refl)

pub reach-i-requires : goal.reach-i-requires
unfolding listed columns
reach-i-requires c = record { held = (flow_usable c.requires.ready _ c.flow-l.ensures).0; i_le_size = c.loop-n.invariant.0.upto }

pub overflow_cast-starts : goal.overflow_cast-starts
overflow_cast-starts c = omega (arith, reach_low c.requires.ready _ _ _ _ _ c.flow-l.ensures c.loop-n.invariant.0 c.reach-i.ensures)

pub loop-n-preserved : goal.loop-n-preserved
unfolding listed columns
loop-n-preserved c = (begun_next _ _ _ _ _ c.flow-l.result.size refl c.loop-n.invariant.0 c.reach-i.ensures (search rules), search rules)

pub returns : goal.returns
returns c = begun_over _ _ _ _ _ _ _ c.flow-l.ensures c.requires.names_in_bounds c.loop-n.invariant.1 c.loop-n.invariant.0 (omega (arith, c.loop-n-test.false))
