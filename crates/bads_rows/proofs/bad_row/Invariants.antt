-- The loop's invariant: the first i bads end before row r.
use Prim.Native.Nat.{◌-◌, ◌≤◌}
use Rattle.bads_rows.proofs.Walking.{BadsWalked}
use Rattle.bads_rows.proofs.bad_row.Given as goal

abbrev pub invariant-loop-i : goal.invariant-loop-i
invariant-loop-i l = BadsWalked l.ws l.s l.i l.r × (l.i ≤ l.j)

abbrev pub decreases-loop-i : goal.decreases-loop-i
decreases-loop-i l = l.j - l.i
