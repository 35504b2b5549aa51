use Prim.Native.Nat.{◌-◌}
use native.Mathlib.Omega.{arith}
use borrow.Author.Rules.{rules}
use Rattle.ceilings_groups.proofs.Settling.{boundless_start, boundless_next, boundless_some}
use Rattle.ceilings_groups.proofs.is_boundless.Goals as goal

pub below-left-requires : goal.below-left-requires
below-left-requires c = tt

pub loop-x-init : goal.loop-x-init
loop-x-init c = (boundless_start _ _ c.below-left.ensures, search rules)

pub load-requires : goal.load-requires
load-requires c = record { room = omega (arith, c.loop-x-test.true, c.requires) }

pub and-left-requires : goal.and-left-requires
and-left-requires c = tt

pub loop-x-preserved : goal.loop-x-preserved
loop-x-preserved c = (boundless_next _ _ _ _ _ c.loop-x.invariant.0 c.load.ensures c.and-left.ensures, search rules)

pub is_none-requires : goal.is_none-requires
is_none-requires c = tt

pub returns : goal.returns
returns c = boundless_some _ _ _ _ _ (omega (arith, c.loop-x.invariant.1, c.loop-x-test.false)) c.loop-x.invariant.0 c.is_none.ensures
