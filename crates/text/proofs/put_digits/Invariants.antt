use Rattle.text.proofs.Digits.{Spelled}
use Rattle.text.proofs.put_digits.Given as goal

abbrev pub invariant-loop-i : goal.invariant-loop-i
invariant-loop-i l = Spelled l.base l.k l.n l.at l.i l.rest l.initial.out l.out
