use Prim.Native.Nat.{◌-◌}
use native.Mathlib.Omega.{arith}
use borrow.Author.Rules.{rules}
use Rattle.ceilings_groups.proofs.Settling.{open_start, open_next, open_all}
use Rattle.ceilings_groups.proofs.open_to_all.Goals as goal

pub below-all-requires : goal.below-all-requires
below-all-requires c = tt

pub loop-j-init : goal.loop-j-init
loop-j-init c = (open_start _ _ _ _ _ _ _ _, search rules)

pub overflow_cast-to : goal.overflow_cast-to
overflow_cast-to c = omega (arith, c.type_inv.tos c.loop-j.j)

pub overflow_cast-other : goal.overflow_cast-other
overflow_cast-other c = omega (arith, c.type_inv.others c.loop-j.j)

pub narrowed-all-requires : goal.narrowed-all-requires
narrowed-all-requires c = c.requires.holders

pub loop-j-preserved : goal.loop-j-preserved
loop-j-preserved c = (open_next _ _ _ _ _ _ _ c.loop-j.j c.loop-j.all _ c.loop-j.invariant.0 (c.narrowed-all.ensures.by_index, c.narrowed-all.ensures.by_index_2), search rules)

pub returns : goal.returns
returns c = open_all _ _ _ _ _ _ _ _ _ _ c.loop-j-test.false c.loop-j.invariant.0
