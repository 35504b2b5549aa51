use Rattle.corpus.proofs.Marking.{Marked}
use Rattle.corpus.proofs.cases.fill_marks.Given as goal

abbrev pub invariant-loop-i : goal.invariant-loop-i
invariant-loop-i l = Marked l.i l.initial.words l.words
