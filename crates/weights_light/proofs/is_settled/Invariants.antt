-- The loop's invariant: some line weighs the bad above the start exactly where one from line k on does.
use Prim.Native.Nat.{◌-◌, ◌≤◌}
use mathlib.Core.Path.{◌≡◌}
use lib.ListN.{length}
use Rattle.model.specs.Index.{any}
use Rattle.weights_light.proofs.Settled.{above_start}
use Rattle.weights_light.proofs.is_settled.Given as goal

abbrev pub invariant-loop-k : goal.invariant-loop-k
invariant-loop-k l = (any 0 l.s.lines (above_start l.ws l.s l.n l.r) ≡ any l.k l.s.lines (above_start l.ws l.s l.n l.r)) × (l.k ≤ l.s.lines) × (length l.counts ≡ length l.initial.counts)

abbrev pub decreases-loop-k : goal.decreases-loop-k
decreases-loop-k l = l.s.lines - l.k
