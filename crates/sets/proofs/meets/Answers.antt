use Rattle.bits.proofs.Rows.{flipped_none, any_as}
use Rattle.sets.proofs.meets.Goals as goal

pub returns : goal.returns
returns c = any_as _ c.gather.result _ _ c.gather.ensures (λ v. flipped_none _ _ _ _ _ v)
