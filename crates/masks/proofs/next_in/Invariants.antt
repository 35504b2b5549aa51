-- The loop's invariant: the first from k on is the first from i on.
use Prim.Native.Nat.{◌-◌, ◌≤◌}
use mathlib.Core.Path.{◌≡◌}
use Rattle.model.specs.Index.{first}
use Rattle.masks.specs.Masks.{has}
use Rattle.masks.proofs.next_in.Given as goal

abbrev pub invariant-loop-i : goal.invariant-loop-i
invariant-loop-i l = (first l.k 256 (has l.x) ≡ first l.i 256 (has l.x)) × (l.i ≤ 256)

abbrev pub decreases-loop-i : goal.decreases-loop-i
decreases-loop-i l = 256 - l.i
