use Prim.Native.Nat.{◌-◌, ◌≤◌}
use mathlib.Core.Path.{◌≡◌}
use lib.ListN.{replicate}
use Rattle.model.specs.Rows.{program}
use Rattle.program.specs.Rows.{from, listed_item}
use Rattle.program.proofs.readers.names.Given as goal

abbrev pub invariant-loop : goal.invariant-loop
invariant-loop l =
    (l.q ≤ l.s.rows) × (from (program l.ws l.s) (replicate l.n (listed_item l.t)) l.r ≡ from (program l.ws l.s) (replicate (l.n - l.counter) (listed_item l.t)) l.q)
