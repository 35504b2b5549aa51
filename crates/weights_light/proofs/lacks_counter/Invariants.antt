-- The loop's invariant: the items from row i on lack a counter exactly where those of the bad do.
use Prim.Native.Nat.{◌+◌, ◌-◌, ◌≤◌}
use mathlib.Core.Path.{◌≡◌}
use Rattle.model.specs.Rows.{program}
use Rattle.model.specs.Tables.{tables}
use Rattle.model.specs.Bads.{bad_rows}
use Rattle.model.specs.Weights.{without_counter}
use Rattle.bads_rows.specs.Items.{items_at}
use Rattle.weights_light.proofs.lacks_counter.Given as goal

abbrev pub invariant-loop-s : goal.invariant-loop-s
invariant-loop-s l = (without_counter (program l.ws l.s) (tables l.ws l.s) (items_at (bad_rows l.ws l.s) l.r) ≡ without_counter (program l.ws l.s) (tables l.ws l.s) (items_at (bad_rows l.ws l.s) l.i)) × (l.i ≤ l.s.badrows + 3)

abbrev pub decreases-loop-s : goal.decreases-loop-s
decreases-loop-s l = l.s.badrows + 3 - l.i
