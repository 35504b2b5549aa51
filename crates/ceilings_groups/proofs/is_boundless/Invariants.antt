-- The loop's invariant: the mask has the ceilings that have no bound at the counters before x.
use Prim.Native.Nat.{◌-◌, ◌≤◌}
use Rattle.ceilings_groups.proofs.Settling.{BoundlessUpto}
use Rattle.ceilings_groups.proofs.is_boundless.Given as goal

abbrev pub invariant-loop-x : goal.invariant-loop-x
invariant-loop-x l = BoundlessUpto l.holders l.x l.left × (l.x ≤ l.n)

abbrev pub decreases-loop-x : goal.decreases-loop-x
decreases-loop-x l = l.n - l.x
