use Rattle.report.specs.System.{rows_text}
use Rattle.report.proofs.Rows.{Put}
use Rattle.report.proofs.put_rows.Given as goal

abbrev pub invariant-loop-r : goal.invariant-loop-r
invariant-loop-r l = Put l.at (rows_text l.ws l.r) l.here l.initial.out l.out
