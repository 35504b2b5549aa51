-- The loop's invariant: `least` is the first bad that one of the first k ceilings allows.
use Prim.Native.Nat.{◌-◌, ◌≤◌}
use mathlib.Core.Path.{◌≡◌}
use lib.ListN.{length}
use Rattle.ceilings_met.proofs.Meeting.{first_allowed}
use Rattle.ceilings_met.proofs.met_check.Given as goal

abbrev pub invariant-loop-k : goal.invariant-loop-k
invariant-loop-k l = (l.least ≡ first_allowed l.ws l.s l.n l.k) × (l.least ≤ l.s.bads) × (l.k ≤ l.s.ceilings) × (length l.sums ≡ length l.initial.sums)

abbrev pub decreases-loop-k : goal.decreases-loop-k
decreases-loop-k l = l.s.ceilings - l.k
