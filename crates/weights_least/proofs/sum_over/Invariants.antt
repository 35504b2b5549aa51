-- The loop's invariant: the sum so far and that of the counts from x on are the sum of all.
use Prim.Native.Nat.{◌+◌, ◌*◌, ◌-◌, ◌≤◌}
use mathlib.Core.Path.{◌≡◌}
use lib.ListN.{get_or}
use Rattle.model.specs.Index.{total}
use Rattle.weights_least.proofs.sum_over.Given as goal

abbrev pub invariant-loop-x : goal.invariant-loop-x
invariant-loop-x l = (l.sum + total l.x l.to (λ y. get_or l.counts y 0) ≡ total l.from l.to (λ y. get_or l.counts y 0)) × (l.sum ≤ l.x * 65535)

abbrev pub decreases-loop-x : goal.decreases-loop-x
decreases-loop-x l = l.to - l.x
