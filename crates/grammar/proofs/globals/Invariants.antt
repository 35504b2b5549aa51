use Prim.Native.Nat.{◌-◌, ◌≤◌}
use mathlib.Core.Path.{◌≡◌}
use lib.ListN.{replicate}
use Rattle.model.specs.Rows.{program, global}
use Rattle.program.specs.Rows.{from}
use Rattle.grammar.proofs.globals.Given as goal

abbrev pub invariant-loop : goal.invariant-loop
invariant-loop l =
    (l.q ≤ l.s.rows) × (from (program l.ws l.s) (replicate l.s.functions global) l.r ≡ from (program l.ws l.s) (replicate (l.s.functions - l.counter) global) l.q)
