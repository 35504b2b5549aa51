use Rattle.model.specs.Rows.{program}
use Rattle.layout.specs.Tables.{AfterFrom}
use Rattle.layout.proofs.ends.fill_ends.Given as goal

abbrev pub invariant-loop-r : goal.invariant-loop-r
invariant-loop-r l = AfterFrom (program l.ws l.s) l.r l.afters
