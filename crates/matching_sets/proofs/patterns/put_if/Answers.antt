use Rattle.matching_sets.proofs.Filling.{put_taken, put_left}
use Rattle.matching_sets.proofs.patterns.put_if.Goals as goal

pub returns-then-b : goal.returns-then-b
returns-then-b c = put_taken _ _ _ _ _ _ c.if-b.true c.put.ensures

pub returns-else-b : goal.returns-else-b
returns-else-b c = put_left _ _ _ _ _ c.if-b.false
