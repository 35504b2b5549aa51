use Rattle.evidence.proofs.Lists.{place_pass, place_fail}
use Rattle.evidence.proofs.entries.in_place.Goals as goal

pub returns-then-in_range : goal.returns-then-in_range
returns-then-in_range c = place_pass _ _ _ _ _ _ _ _ c.left-a.ensures c.right-b.ensures c.third-d.ensures _ c.in_range.ensures _ c.if-in_range.true c.ascends.ensures

pub returns-else-in_range : goal.returns-else-in_range
returns-else-in_range c = place_fail _ _ _ _ _ _ _ _ c.left-a.ensures c.right-b.ensures c.third-d.ensures _ c.in_range.ensures c.if-in_range.false
