use mathlib.Core.Bool.{◌||◌}
use Rattle.bits.proofs.Bits.{bit_ones, bit_zero}
use Rattle.bits.proofs.Rows.{renewed_as, renew_joined}
use Rattle.sets.proofs.join_into.Goals as goal

pub returns : goal.returns
returns c = renewed_as _ _ _ _ _ _ _ _ _ _ ◌||◌ c.renew.ensures (λ k _. bit_zero k) bit_ones renew_joined
