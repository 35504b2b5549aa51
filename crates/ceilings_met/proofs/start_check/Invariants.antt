-- The loop's invariant: some ceiling covers the start exactly where one of those from k on does.
use Prim.Native.Nat.{◌-◌, ◌≤◌}
use mathlib.Core.Path.{◌≡◌}
use Rattle.model.specs.Index.{any}
use Rattle.ceilings_met.proofs.Start.{covers_start}
use Rattle.ceilings_met.proofs.start_check.Given as goal

abbrev pub invariant-loop-k : goal.invariant-loop-k
invariant-loop-k l = (any 0 l.s.ceilings (covers_start l.ws l.s l.n) ≡ any l.k l.s.ceilings (covers_start l.ws l.s l.n)) × (l.k ≤ l.s.ceilings)

abbrev pub decreases-loop-k : goal.decreases-loop-k
decreases-loop-k l = l.s.ceilings - l.k
