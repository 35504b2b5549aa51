use Rattle.bits.proofs.Bits.{bit_and_lem}
use mathlib.Core.Path.{refl}
use mathlib.Core.Bool.{◌&&◌}
use lib.Bits.{bit_and}
use borrow.Author.Rules.{rules}
use Rattle.masks.proofs.Masks.{has_each}
use Rattle.masks.proofs.and.Goals as goal

pub returns : goal.returns
returns c = has_each bit_and ◌&&◌ refl bit_and_lem _ _ _ (search rules) (search rules) (search rules) (search rules)
