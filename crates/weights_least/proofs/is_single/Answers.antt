use Rattle.weights_least.proofs.Items.{single_tag, single_none}
use Rattle.weights_least.proofs.is_single.Goals as goal

pub returns-then-next-r : goal.returns-then-next-r
returns-then-next-r c = single_tag _ _ _ c.requires.r_lt_badrows.1 _ c.if-next-r.true c.bad_tag.ensures

pub returns-else-next-r : goal.returns-else-next-r
returns-else-next-r c = single_none _ _ _ c.requires.r_lt_badrows.1 c.if-next-r.false
