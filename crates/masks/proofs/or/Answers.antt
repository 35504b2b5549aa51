use Rattle.bits.proofs.Bits.{bit_or_lem}
use mathlib.Core.Path.{refl}
use mathlib.Core.Bool.{◌||◌}
use lib.Bits.{bit_or}
use borrow.Author.Rules.{rules}
use Rattle.masks.proofs.Masks.{has_each}
use Rattle.masks.proofs.or.Goals as goal

pub returns : goal.returns
returns c = has_each bit_or ◌||◌ refl bit_or_lem _ _ _ (search rules) (search rules) (search rules) (search rules)
