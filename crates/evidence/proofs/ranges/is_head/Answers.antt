use Rattle.evidence.proofs.Tags.{head_from, no_head}
use Rattle.evidence.proofs.ranges.is_head.Goals as goal

pub returns-then-t-ge1 : goal.returns-then-t-ge1
returns-then-t-ge1 c = head_from _ _ _ c.tag-t.ensures c.if-t-ge1.true

pub returns-else-t-ge1 : goal.returns-else-t-ge1
returns-else-t-ge1 c = no_head _ _ _ c.tag-t.ensures c.if-t-ge1.false
