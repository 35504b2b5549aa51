-- The loop's invariant: of the letters of the class before y, those from `first` below `end` are named.
use Prim.Native.Nat.{◌-◌, ◌≤◌}
use Rattle.model.specs.Rows.{program}
use Rattle.model.specs.Tables.{tables}
use Rattle.model.specs.Bads.{bad_rows}
use Rattle.system_items.specs.Stretches.{is_named_of, Stretched}
use Rattle.system_items.proofs.letters_named.Given as goal

abbrev pub invariant-loop-y : goal.invariant-loop-y
invariant-loop-y l = Stretched (is_named_of (program l.ws l.s) (tables l.ws l.s) (bad_rows l.ws l.s) l.from l.to) l.low l.y l.first l.end × (l.low ≤ l.y) × (l.y ≤ l.high)

abbrev pub decreases-loop-y : goal.decreases-loop-y
decreases-loop-y l = l.high - l.y
