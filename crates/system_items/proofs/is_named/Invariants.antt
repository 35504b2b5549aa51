-- The loop's invariant: letter y is named exactly where its digits from row r on are those of the rows.
use Prim.Native.Nat.{◌-◌, ◌≤◌}
use Rattle.model.specs.Rows.{program}
use Rattle.model.specs.Tables.{tables}
use Rattle.model.specs.Bads.{bad_rows}
use Rattle.system_items.proofs.Letters.{Left}
use Rattle.system_items.proofs.is_named.Given as goal

abbrev pub invariant-loop-r : goal.invariant-loop-r
invariant-loop-r l = Left (program l.ws l.s) (tables l.ws l.s) (bad_rows l.ws l.s) l.from l.to l.y l.r × (l.from ≤ l.r)

abbrev pub decreases-loop-r : goal.decreases-loop-r
decreases-loop-r l = l.to - l.r
