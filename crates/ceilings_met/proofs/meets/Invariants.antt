-- The loop's invariant: the bad is met exactly where its items from row i on are.
use Prim.Native.Nat.{◌+◌, ◌-◌, ◌≤◌}
use mathlib.Core.Path.{◌≡◌}
use Rattle.model.specs.Bads.{bad_rows, met}
use Rattle.model.specs.Rows.{program}
use Rattle.model.specs.Tables.{tables}
use Rattle.model.specs.Markings.{sum_in}
use Rattle.bads_rows.specs.Items.{items_at}
use Rattle.ceilings_met.specs.Sums.{counts_of}
use Rattle.ceilings_met.proofs.meets.Given as goal

abbrev pub invariant-loop-s : goal.invariant-loop-s
invariant-loop-s l = (met (sum_in (program l.ws l.s) (tables l.ws l.s) (counts_of l.sums)) (items_at (bad_rows l.ws l.s) l.r) ≡ met (sum_in (program l.ws l.s) (tables l.ws l.s) (counts_of l.sums)) (items_at (bad_rows l.ws l.s) l.i)) × (l.i ≤ l.s.badrows + 3)

abbrev pub decreases-loop-s : goal.decreases-loop-s
decreases-loop-s l = l.s.badrows + 3 - l.i
