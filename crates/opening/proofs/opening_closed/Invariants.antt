use Rattle.opening.proofs.Openings.{OpeningsFrom}
use Rattle.opening.proofs.opening_closed.Given as goal

abbrev pub invariant-loop-r : goal.invariant-loop-r
invariant-loop-r l = OpeningsFrom l.ws l.s l.r
