use Prim.Native.Nat.{◌-◌, ◌≤◌}
use mathlib.Core.Path.{◌≡◌}
use lib.ListN.{replicate}
use Rattle.model.specs.Rows.{program, constructor}
use Rattle.program.specs.Rows.{from}
use Rattle.program.proofs.readers.constructors.Given as goal

abbrev pub invariant-loop-r : goal.invariant-loop-r
invariant-loop-r l =
    (l.r ≤ l.s.rows) × (from (program l.ws l.s) (replicate l.s.constructors constructor) 0 ≡ from (program l.ws l.s) (replicate (l.s.constructors - l.r) constructor) l.r)
