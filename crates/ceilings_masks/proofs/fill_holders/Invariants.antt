-- The loop's invariant: the sets of the counters before x are in the table.
use Prim.Native.Nat.{◌-◌, ◌≤◌}
use mathlib.Core.Path.{◌≡◌}
use lib.ListN.{length}
use Rattle.ceilings_masks.specs.Compared.{Holders}
use Rattle.ceilings_masks.proofs.fill_holders.Given as goal

abbrev pub invariant-loop-x : goal.invariant-loop-x
invariant-loop-x l = Holders l.limits l.ceilings l.x l.holders × (length l.holders ≡ length l.initial.holders) × (l.x ≤ l.n)

abbrev pub decreases-loop-x : goal.decreases-loop-x
decreases-loop-x l = l.n - l.x
