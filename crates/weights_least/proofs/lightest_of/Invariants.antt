-- The loop's invariant: `best` is the lightest of the counters before x, and `least` is its weight.
use Prim.Native.Nat.{◌-◌, ◌≤◌}
use mathlib.Core.Path.{◌≡◌}
use Rattle.ceilings.specs.Table.{held}
use Rattle.weights_least.specs.Least.{LightestIn}
use Rattle.weights_least.proofs.lightest_of.Given as goal

abbrev pub invariant-loop-x : goal.invariant-loop-x
invariant-loop-x l = LightestIn (held l.weights l.lines l.k) l.from l.x l.best × (l.least ≡ held l.weights l.lines l.k l.best) × (l.x ≤ l.to)

abbrev pub decreases-loop-x : goal.decreases-loop-x
decreases-loop-x l = l.to - l.x
