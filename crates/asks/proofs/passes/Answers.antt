use Prim.Native.Nat.{◌-◌}
use native.Mathlib.Omega.{arith}
use Rattle.asks.proofs.Rows.{argument_below, parameter_below, count_below, row_below, function_below}
use Rattle.asks.proofs.Asking.{passes_begin, passes_next, passes_fails, passes_over}
use borrow.Author.Rules.{rules}
use Rattle.asks.proofs.passes.Goals as goal

pub overflow_add-r : goal.overflow_add-r
overflow_add-r c = omega (arith, (row_below c.requires.flow_ready.ready c.args.r (omega (arith, c.requires.r_value.0))).1)

pub num-n-requires : goal.num-n-requires
num-n-requires c = c.requires.flow_ready.ready.whole

pub loop-i-init : goal.loop-i-init
loop-i-init c = (count_below c.requires.flow_ready.ready _ _ c.requires.r_value.0 c.num-n.ensures, passes_begin _ _ _ _ _ c.num-n.ensures)

pub overflow_add-r-in-loop-i : goal.overflow_add-r-in-loop-i
overflow_add-r-in-loop-i c = omega (arith, (row_below c.requires.flow_ready.ready c.args.r (omega (arith, c.requires.r_value.0))).1)

pub overflow_add-r-in-loop-i-2 : goal.overflow_add-r-in-loop-i-2
overflow_add-r-in-loop-i-2 c = omega (arith, (row_below c.requires.flow_ready.ready c.args.r (omega (arith, c.requires.r_value.0))).1)

pub num-argument-requires : goal.num-argument-requires
num-argument-requires c = c.requires.flow_ready.ready.whole

pub overflow_add-f : goal.overflow_add-f
overflow_add-f c = omega (arith, function_below c.requires.flow_ready.ready _ _ c.requires.r_value.1)

pub overflow_add-f-in-loop-i : goal.overflow_add-f-in-loop-i
overflow_add-f-in-loop-i c = omega (arith, function_below c.requires.flow_ready.ready _ _ c.requires.r_value.1)

pub num-parameter-requires : goal.num-parameter-requires
num-parameter-requires c = c.requires.flow_ready.ready.whole

pub includes-requires : goal.includes-requires
includes-requires c = record {
  flow_sets = c.requires.flow_ready.names;
  a_lt_names = (argument_below c.requires.flow_ready.ready _ _ _ _ c.requires.r_value.0 c.num-n.ensures (search rules) c.num-argument.ensures, parameter_below c.requires.flow_ready.ready _ _ _ _ _ c.requires.r_value.1 c.num-n.ensures (search rules) c.num-parameter.ensures);
}

pub returns-then-not-includes : goal.returns-then-not-includes
returns-then-not-includes c = passes_fails _ _ _ _ _ _ _ _ _ c.num-n.ensures c.requires.r_value.1 (search rules) c.num-argument.ensures c.num-parameter.ensures c.includes.ensures c.loop-i.invariant.1 c.if-not-includes.true

pub loop-i-preserved : goal.loop-i-preserved
loop-i-preserved c = (c.loop-i.invariant.0, passes_next _ _ _ _ _ _ _ _ _ c.num-n.ensures c.requires.r_value.1 (search rules) c.num-argument.ensures c.num-parameter.ensures c.includes.ensures c.loop-i.invariant.1 c.if-not-includes.false)

pub returns : goal.returns
returns c = passes_over _ _ _ _ _ _ (search rules) c.loop-i.invariant.1
