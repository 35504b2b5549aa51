use Rattle.letter_sets.proofs.Digits.{digit_told}
use Rattle.letter_sets.proofs.digit.Goals as goal

pub returns : goal.returns
returns c = digit_told c.args.code c.args.i
