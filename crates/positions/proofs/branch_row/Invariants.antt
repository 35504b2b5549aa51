use Prim.Native.Nat.{◌+◌, ◌-◌}
use mathlib.Core.Path.{◌≡◌}
use Rattle.model.specs.Rows.{program}
use Rattle.positions.specs.Positions.{branch_row, Run}
use Rattle.positions.proofs.branch_row.Given as goal

abbrev pub invariant-loop : goal.invariant-loop
invariant-loop l =
    (branch_row (program l.ws l.s) l.q l.j ≡ branch_row (program l.ws l.s) l.row (l.j - l.counter)) × Run (program l.ws l.s) l.row (l.j - l.counter + 1)
