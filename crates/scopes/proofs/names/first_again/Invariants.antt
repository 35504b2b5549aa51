use mathlib.Core.Path.{◌≡◌}
use Rattle.model.specs.Index.{first}
use Rattle.model.specs.Rows.{program}
use Rattle.model.specs.Scopes.{bound_again}
use Rattle.scopes.proofs.names.first_again.Given as goal

abbrev pub invariant-loop-r : goal.invariant-loop-r
invariant-loop-r l = first 0 l.s.rows (bound_again (program l.ws l.s)) ≡ first l.r l.s.rows (bound_again (program l.ws l.s))
