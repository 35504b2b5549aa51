use Rattle.model.specs.Rows.{program}
use Rattle.scopes.proofs.Binding.{Binders}
use Rattle.scopes.proofs.names.fill_binders.Given as goal

abbrev pub invariant-loop-r : goal.invariant-loop-r
invariant-loop-r l = Binders (program l.ws l.s) l.r l.table
