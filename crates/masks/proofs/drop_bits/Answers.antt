use mathlib.Core.Path.{◌∙◌, ap}
use mathlib.Core.Bool.{◌&&◌}
use Rattle.bits.specs.Bits.{bit}
use Rattle.bits.proofs.Bits.{bit_and_lem, bit_not}
use borrow.Author.Rules.{rules}
use Rattle.masks.proofs.drop_bits.Goals as goal

-- src/lib.rt:63:1
pub returns : goal.returns
returns c = λ k h. bit_and_lem _ _ k ∙ ap (λ b. bit c.args.x k && b) (bit_not c.args.y k (search rules) h)
