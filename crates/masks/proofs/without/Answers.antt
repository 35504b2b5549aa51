use Rattle.bits.proofs.Bits.{bit_without}
use mathlib.Core.Path.{refl}
use mathlib.Core.Bool.{◌&&◌, not}
use lib.Bits.{bit_xor, bit_and}
use borrow.Author.Rules.{rules}
use Rattle.masks.proofs.Masks.{has_each}
use Rattle.masks.proofs.without.Goals as goal

pub returns : goal.returns
returns c = has_each (λ x y. bit_xor x (bit_and x y)) (λ x y. x && not y) refl bit_without _ _ _ (search rules) (search rules) (search rules) (search rules)
