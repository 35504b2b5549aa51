use Rattle.onward.specs.Guesses.{Guessed}
use Rattle.onward.proofs.guess_class.Given as goal

abbrev pub invariant-loop-j : goal.invariant-loop-j
invariant-loop-j l = Guessed l.s.states l.initial.at l.at
