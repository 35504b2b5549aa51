use Rattle.model.specs.Rows.{program}
use Rattle.letter_sets.proofs.Told.{Left}
use Rattle.letter_sets.proofs.allows.Given as goal

abbrev pub invariant-loop-i : goal.invariant-loop-i
invariant-loop-i l = Left (program l.ws l.s) l.names l.v l.count l.code l.i
