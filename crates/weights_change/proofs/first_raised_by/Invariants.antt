-- The loop's invariant: what all rules give, those from j on give below the first line so far.
use Prim.Native.Nat.{◌-◌}
use Rattle.weights_change.specs.Changes.{weight_of}
use Rattle.weights_change.proofs.Raised.{SoFar}
use Rattle.weights_change.proofs.first_raised_by.Given as goal

abbrev pub invariant-loop-j : goal.invariant-loop-j
invariant-loop-j l = SoFar (weight_of l.weights l.lines l.n) l.kind l.i l.tos l.others l.m l.upto l.j l.least

abbrev pub decreases-loop-j : goal.decreases-loop-j
decreases-loop-j l = l.m - l.j
