use mathlib.Core.Path.{◌≡◌}
use Rattle.model.specs.Index.{all}
use Rattle.model.specs.Rows.{program}
use Rattle.scopes.specs.Tables.{is_bound}
use Rattle.scopes.proofs.names.all_bound.Given as goal

abbrev pub invariant-loop-n : goal.invariant-loop-n
invariant-loop-n l = all 0 l.s.names (is_bound (program l.ws l.s)) ≡ all l.n l.s.names (is_bound (program l.ws l.s))
