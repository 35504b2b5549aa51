use Rattle.bits.proofs.Bits.{bit_ones}
use Rattle.bits.proofs.Rows.{renewed_as, renew_copied}
use Rattle.sets.proofs.copy_into.Goals as goal

pub returns : goal.returns
returns c = renewed_as _ _ _ _ _ _ _ _ _ _ (λ x y. y) c.renew.ensures bit_ones bit_ones renew_copied
