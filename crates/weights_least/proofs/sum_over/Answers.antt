use native.Mathlib.Omega.{arith}
use lib.ListN.{get_or}
use Rattle.model.proofs.Index.{total_turn, total_end}
use borrow.Author.Rules.{rules}
use Rattle.weights_least.proofs.sum_over.Goals as goal

pub overflow_cast-sum : goal.overflow_cast-sum
overflow_cast-sum c = omega (arith, c.type_inv.counts c.loop-x.x)

pub overflow_add-sum : goal.overflow_add-sum
overflow_add-sum c = omega (arith, c.type_inv.counts c.loop-x.x, c.loop-x.invariant.1)

pub loop-x-preserved : goal.loop-x-preserved
loop-x-preserved c = (omega (arith, c.loop-x.invariant.0, total_turn c.loop-x.x c.args.to (λ y. get_or c.args.counts.now y 0) (search rules)), omega (arith, c.type_inv.counts c.loop-x.x, c.loop-x.invariant.1))

pub returns : goal.returns
returns c = omega (arith, c.loop-x.invariant.0, total_end c.loop-x.x c.args.to (λ y. get_or c.args.counts.now y 0) (search rules))
