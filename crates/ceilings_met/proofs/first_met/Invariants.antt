-- The loop's invariant: the first bad met is the first of those from bad j on, which stand from row r.
use Prim.Native.Nat.{◌-◌, ◌≤◌}
use mathlib.Core.Path.{◌≡◌}
use Rattle.model.specs.Index.{first}
use Rattle.ceilings_met.specs.Met.{bad_met}
use Rattle.ceilings_met.specs.Sums.{counts_of}
use Rattle.bads_rows.proofs.Walking.{BadsWalked}
use Rattle.ceilings_met.proofs.first_met.Given as goal

abbrev pub invariant-loop-j : goal.invariant-loop-j
invariant-loop-j l = (first 0 l.upto (bad_met l.ws l.s (counts_of l.sums)) ≡ first l.j l.upto (bad_met l.ws l.s (counts_of l.sums))) × BadsWalked l.ws l.s l.j l.r × (l.j ≤ l.upto)

abbrev pub decreases-loop-j : goal.decreases-loop-j
decreases-loop-j l = l.upto - l.j
