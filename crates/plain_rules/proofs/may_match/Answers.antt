use mathlib.Core.Path.{◌∙◌, ap}
use Rattle.bits.specs.Bits.{bit}
use Rattle.bits.proofs.Bits.{bit_read}
use Rattle.plain_rules.proofs.may_match.Goals as goal

pub returns : goal.returns
returns c = bit_read _ _ ∙ ap (λ x. bit x c.args.b) c.word-x.ensures.0
