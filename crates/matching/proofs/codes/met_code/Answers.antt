use Rattle.bits.specs.Bits.{shared}
use Rattle.matching.proofs.Leaves.{met_code, unmet_code}
use Rattle.matching.proofs.codes.met_code.Goals as goal

pub returns-then-meets : goal.returns-then-meets
unfolding shared
returns-then-meets c = met_code _ _ c.meets.ensures c.if-meets.true

pub returns-else-meets : goal.returns-else-meets
unfolding shared
returns-else-meets c = unmet_code _ _ c.meets.ensures c.if-meets.false
