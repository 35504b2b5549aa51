-- The loop's invariant: the rules before j are open to the ceilings of the three masks.
use Prim.Native.Nat.{◌-◌, ◌≤◌}
use Rattle.ceilings_groups.proofs.Settling.{OpenUpto}
use Rattle.ceilings_groups.proofs.sets_to_all.Given as goal

abbrev pub invariant-loop-j : goal.invariant-loop-j
invariant-loop-j l = OpenUpto l.limits l.ceilings l.n l.n l.kind l.tos l.others l.j l.free × OpenUpto l.limits l.ceilings l.n l.states l.kind l.tos l.others l.j l.lettered × OpenUpto l.limits l.ceilings l.n 0 l.kind l.tos l.others l.j l.held × (l.j ≤ l.m)

abbrev pub decreases-loop-j : goal.decreases-loop-j
decreases-loop-j l = l.m - l.j
