use Prim.Native.Nat.{◌-◌}
use native.Mathlib.Omega.{arith}
use borrow.Author.Rules.{rules}
use Rattle.ceilings_groups.proofs.Settling.{open_start, open_next, open_all}
use Rattle.ceilings_groups.proofs.sets_to_all.Goals as goal

pub below-free-requires : goal.below-free-requires
below-free-requires c = tt

pub below-lettered-requires : goal.below-lettered-requires
below-lettered-requires c = tt

pub below-held-requires : goal.below-held-requires
below-held-requires c = tt

pub loop-j-init : goal.loop-j-init
loop-j-init c = (open_start _ _ _ _ _ _ _ _, open_start _ _ _ _ _ _ _ _, open_start _ _ _ _ _ _ _ _, search rules)

pub overflow_cast-to : goal.overflow_cast-to
overflow_cast-to c = omega (arith, c.type_inv.tos c.loop-j.j)

pub overflow_cast-other : goal.overflow_cast-other
overflow_cast-other c = omega (arith, c.type_inv.others c.loop-j.j)

pub narrowed-free-requires : goal.narrowed-free-requires
narrowed-free-requires c = c.requires.holders

pub narrowed-lettered-requires : goal.narrowed-lettered-requires
narrowed-lettered-requires c = c.requires.holders

pub narrowed-held-requires : goal.narrowed-held-requires
narrowed-held-requires c = c.requires.holders

pub overflow_step-j : goal.overflow_step-j
overflow_step-j c = record { fits = omega (arith, c.loop-j-test.true, c.ranges.m.fits) }

pub loop-j-preserved : goal.loop-j-preserved
loop-j-preserved c =
    let l = c.loop-j in
    (open_next _ _ _ _ _ _ _ l.j l.free _ l.invariant.0 (c.narrowed-free.ensures.by_index, c.narrowed-free.ensures.by_index_2), open_next _ _ _ _ _ _ _ l.j l.lettered _ l.invariant.1 (c.narrowed-lettered.ensures.by_index, c.narrowed-lettered.ensures.by_index_2), open_next _ _ _ _ _ _ _ l.j l.held _ l.invariant.2 (c.narrowed-held.ensures.by_index, c.narrowed-held.ensures.by_index_2), search rules)

pub returns : goal.returns
returns c =
    let l = c.loop-j.invariant in
    record {
      opens = open_all _ _ _ _ _ _ _ _ _ _ c.loop-j-test.false l.0;
      opens_letters = open_all _ _ _ _ _ _ _ _ _ _ c.loop-j-test.false l.1;
      opens_one = open_all _ _ _ _ _ _ _ _ _ _ c.loop-j-test.false l.2;
    }
