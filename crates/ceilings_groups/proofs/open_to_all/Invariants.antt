-- The loop's invariant: the rules before j are open to the ceilings of the mask.
use Prim.Native.Nat.{◌-◌, ◌≤◌}
use Rattle.ceilings_groups.proofs.Settling.{OpenUpto}
use Rattle.ceilings_groups.proofs.open_to_all.Given as goal

abbrev pub invariant-loop-j : goal.invariant-loop-j
invariant-loop-j l = OpenUpto l.limits l.ceilings l.n l.n l.kind l.tos l.others l.j l.all × (l.j ≤ l.m)

abbrev pub decreases-loop-j : goal.decreases-loop-j
decreases-loop-j l = l.m - l.j
