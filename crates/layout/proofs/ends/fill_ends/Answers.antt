use native.Mathlib.Omega.{arith}
use Prim.Native.Nat.{◌-◌}
use Rattle.model.specs.Words.{columns}
use Rattle.model.specs.Rows.{program}
use Rattle.layout.proofs.Ending.{ends_of, after_start, after_set, after_keep, after_by}
use Rattle.layout.proofs.ends.fill_ends.Goals as goal

pub loop-r-init : goal.loop-r-init
unfolding program columns
loop-r-init c = after_start _ _

pub loop-r-preserved-then-end-s : goal.loop-r-preserved-then-end-s
loop-r-preserved-then-end-s c =
    let l = c.loop-r in after_set _ l.r (l.r - 1) _ l.afters (omega arith) (omega arith) c.end_row-end.ensures l.invariant

pub loop-r-preserved : goal.loop-r-preserved
unfolding program columns
loop-r-preserved c =
    let l = c.loop-r in after_keep _ l.r (l.r - 1) _ l.afters (omega arith) c.if-end-s.false c.end_row-end.ensures l.invariant

pub returns : goal.returns
unfolding program columns
returns c = let l = c.loop-r in ends_of _ _ (omega arith) (after_by _ l.r 0 l.afters (omega arith) l.invariant)
