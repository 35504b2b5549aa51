use Rattle.bits.proofs.Bits.{bit_read}
use Rattle.bits.specs.Bits.{member}
use Rattle.sets.proofs.holds.Goals as goal

pub returns : goal.returns
unfolding member
returns c = bit_read _ _
