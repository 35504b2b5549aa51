use Rattle.letter_sets.specs.Sets.{is_digit}
use Rattle.letter_sets.proofs.Putting.{PutUpto}
use Rattle.letter_sets.proofs.put_digits.Given as goal

abbrev pub invariant-loop-i : goal.invariant-loop-i
invariant-loop-i l = PutUpto l.w (is_digit l.heads l.code l.y) 0 l.i l.initial.letters l.letters
