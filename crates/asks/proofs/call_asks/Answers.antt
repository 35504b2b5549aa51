use mathlib.Core.Bool.{not}
use mathlib.Core.Path.{ap}
use native.Mathlib.Omega.{arith}
use Rattle.asks.proofs.Rows.{row_below}
use Rattle.asks.proofs.Asking.{takes_it, call_none, call_fine, call_lacks}
use Rattle.asks.proofs.call_asks.Goals as goal

pub overflow_add-r : goal.overflow_add-r
overflow_add-r c = omega (arith, (row_below c.requires.flow_ready.ready c.args.r (omega (arith, c.requires.r_value))).1)

pub num-count-requires : goal.num-count-requires
num-count-requires c = c.requires.flow_ready.ready.whole

pub takes-requires : goal.takes-requires
takes-requires c = c.requires.flow_ready.ready.whole

pub returns-then-not-takes : goal.returns-then-not-takes
returns-then-not-takes c = call_none _ _ _ _ _ _ c.num-count.ensures c.takes.ensures (ap not c.if-not-takes.true)

pub passes-requires : goal.passes-requires
passes-requires c = record { flow_ready = c.requires.flow_ready; r_value = (c.requires.r_value, (takes_it _ _ _ _ _ c.num-count.ensures c.takes.ensures (ap not c.if-not-takes.false))) }

pub returns-then-passes : goal.returns-then-passes
returns-then-passes c = call_fine _ _ _ _ (takes_it _ _ _ _ _ c.num-count.ensures c.takes.ensures (ap not c.if-not-takes.false)) _ c.passes.ensures c.if-passes.true

pub returns-else-passes : goal.returns-else-passes
returns-else-passes c = call_lacks _ _ _ _ (takes_it _ _ _ _ _ c.num-count.ensures c.takes.ensures (ap not c.if-not-takes.false)) _ c.passes.ensures c.if-passes.false
