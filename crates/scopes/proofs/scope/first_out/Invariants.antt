use Rattle.model.specs.Index.{first}
use Rattle.model.specs.Rows.{program}
use Rattle.model.specs.Scopes.{out_of_scope}
use mathlib.Core.Path.{◌≡◌}
use Rattle.scopes.proofs.scope.first_out.Given as goal

abbrev pub invariant-loop-r : goal.invariant-loop-r
invariant-loop-r l = first 0 l.s.rows (out_of_scope (program l.ws l.s)) ≡ first l.r l.s.rows (out_of_scope (program l.ws l.s))
