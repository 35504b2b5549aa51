use mathlib.Core.Bool.{not, ◌&&◌}
use Rattle.bits.proofs.Bits.{bit_zero}
use Rattle.bits.proofs.Rows.{renewed_as, renew_lessened}
use Rattle.sets.proofs.take_from.Goals as goal

pub returns : goal.returns
returns c = renewed_as _ _ _ _ _ _ _ _ _ _ (λ x y. x && not y) c.renew.ensures (λ k _. bit_zero k) (λ k _. bit_zero k) renew_lessened
