use Prim.Native.Nat.{◌+◌, ◌*◌, ◌-◌, ◌≤◌}
use mathlib.Core.Path.{◌≡◌}
use lib.ListN.{replicate}
use Rattle.model.specs.Rows.{program, pattern}
use Rattle.program.specs.Rows.{from}
use Rattle.program.proofs.readers.+pattern_patterns.Given as goal

abbrev pub decreases-pattern : goal.decreases-pattern
decreases-pattern l = 2 * l.d

abbrev pub decreases-patterns : goal.decreases-patterns
decreases-patterns l = 2 * l.d + 1

abbrev pub invariant-patterns-loop : goal.invariant-patterns-loop
invariant-patterns-loop l =
    (l.q ≤ l.s.rows) × (from (program l.ws l.s) (replicate l.n (pattern l.d)) l.r ≡ from (program l.ws l.s) (replicate (l.n - l.counter) (pattern l.d)) l.q)
