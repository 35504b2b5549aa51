use Rattle.bits.proofs.Rows.{flipped_all, all_as}
use Rattle.sets.proofs.within.Goals as goal

pub returns : goal.returns
returns c = all_as _ c.gather.result _ _ c.gather.ensures (λ v. flipped_all _ _ _ _ _ v)
