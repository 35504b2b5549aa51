-- The loop's invariant: the words before x are filled in, and the next one is at hand.
use Prim.Native.Nat.{◌*◌, ◌-◌, ◌≤◌}
use mathlib.Core.Path.{◌≡◌}
use lib.ListN.{length}
use Rattle.model.specs.Ceilings.{highest}
use Rattle.ceilings.specs.Table.{held}
use Rattle.ceilings_met.proofs.Filled.{Filled}
use Rattle.ceilings_met.proofs.Sums.{sum_before}
use Rattle.ceilings_met.proofs.fill_sums.Given as goal

abbrev pub invariant-loop-x : goal.invariant-loop-x
invariant-loop-x l =
    Filled (sum_before (highest (held l.limits l.s.ceilings l.k))) l.x l.sums × (l.sum ≡ sum_before (highest (held l.limits l.s.ceilings l.k)) l.x) × (l.sum ≤ l.x * 65536) × (l.x ≤ l.n) × (length l.sums ≡ length l.initial.sums)

abbrev pub decreases-loop-x : goal.decreases-loop-x
decreases-loop-x l = l.n - l.x
