use Rattle.letter_sets.proofs.Putting.{PutUpto}
use Rattle.letter_sets.proofs.Filling.{digit_puts}
use Rattle.letter_sets.proofs.fill_digits.Given as goal

abbrev pub invariant-loop-y : goal.invariant-loop-y
invariant-loop-y l = PutUpto l.w (digit_puts l.heads l.codes) 0 l.y l.initial.letters l.letters
