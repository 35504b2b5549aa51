use Prim.Native.Nat.{◌≤◌}
use mathlib.Core.Path.{◌≡◌}
use Rattle.model.specs.Rows.{program}
use Rattle.model.specs.Scopes.{next_head}
use Rattle.scopes.proofs.Scoping.{Heads}
use Rattle.scopes.proofs.scope.fill_next_heads.Given as goal

abbrev pub invariant-loop-r : goal.invariant-loop-r
invariant-loop-r l =
    (l.head ≤ l.s.rows) × (l.head ≡ next_head (program l.ws l.s) l.r) × Heads (program l.ws l.s) l.r l.table
