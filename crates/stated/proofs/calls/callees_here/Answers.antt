use Prim.Native.Nat.{◌-◌}
use native.Mathlib.Omega.{arith}
use mathlib.Core.Path.{sym, ◌∙◌}
use Rattle.model.specs.Rows.{program}
use Rattle.model.proofs.Index.{all_hit, all_miss, all_end}
use Rattle.asks.proofs.Rows.{row_below, read_name}
use Rattle.asks.proofs.Ranges.{starts_range}
use Rattle.stated.proofs.Giving.{callees_all, callee_told}
use borrow.Author.Rules.{rules}
use Rattle.stated.proofs.calls.callees_here.Goals as goal

pub overflow_add-r : goal.overflow_add-r
overflow_add-r c = omega (arith, (row_below c.requires.starts_ready.ready c.args.r (omega (arith, c.requires.r_value))).1)

pub num-callee-requires : goal.num-callee-requires
num-callee-requires c = c.requires.starts_ready.ready.whole

pub overflow_add-r-2 : goal.overflow_add-r-2
overflow_add-r-2 c = omega (arith, (row_below c.requires.starts_ready.ready c.args.r (omega (arith, c.requires.r_value))).1)

pub num-count-requires : goal.num-count-requires
num-count-requires c = c.requires.starts_ready.ready.whole

pub word-from-requires : goal.word-from-requires
unfolding program
word-from-requires c = omega (arith, (read_name c.requires.starts_ready.ready c.args.r _ (omega (arith, c.requires.r_value)) (omega (arith, c.requires.r_value)) c.num-callee.ensures), c.requires.starts_ready.begins.room)

pub overflow_add-callee : goal.overflow_add-callee
unfolding program
overflow_add-callee c = omega (arith, (read_name c.requires.starts_ready.ready c.args.r _ (omega (arith, c.requires.r_value)) (omega (arith, c.requires.r_value)) c.num-callee.ensures), c.requires.starts_ready.ready.limits.names)

pub word-to-requires : goal.word-to-requires
unfolding program
word-to-requires c = omega (arith, (read_name c.requires.starts_ready.ready c.args.r _ (omega (arith, c.requires.r_value)) (omega (arith, c.requires.r_value)) c.num-callee.ensures), c.requires.starts_ready.begins.room)

pub loop-j-init : goal.loop-j-init
loop-j-init c = (callees_all _ _ _ _ _ _ c.num-callee.ensures (starts_range c.requires.starts_ready.ready c.requires.starts_ready.begins _ _ _ (read_name c.requires.starts_ready.ready c.args.r _ (omega (arith, c.requires.r_value)) (omega (arith, c.requires.r_value)) c.num-callee.ensures) c.word-from.ensures.0 c.word-to.ensures.0 _).0, omega (arith, c.word-to.ensures.1))

pub returns-then-not-callee_here : goal.returns-then-not-callee_here
returns-then-not-callee_here c = sym (c.loop-j.invariant.0 ∙ all_miss _ _ _ (search rules) (sym (callee_told _ _ _ _ _ _ _ _ c.flow_value-f.ensures c.num-count.ensures c.callee_here.ensures) ∙ c.if-not-callee_here.true))

pub loop-j-preserved : goal.loop-j-preserved
loop-j-preserved c = (c.loop-j.invariant.0 ∙ all_hit _ _ _ (search rules) (sym (callee_told _ _ _ _ _ _ _ _ c.flow_value-f.ensures c.num-count.ensures c.callee_here.ensures) ∙ c.if-not-callee_here.false), c.loop-j.invariant.1)

pub returns : goal.returns
returns c = sym (c.loop-j.invariant.0 ∙ all_end _ _ _ (search rules))
