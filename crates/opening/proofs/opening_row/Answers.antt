use Rattle.opening.proofs.Openings.{no_global, this_global}
use borrow.Author.Rules.{rules}
use Rattle.opening.proofs.opening_row.Goals as goal

pub returns-then-tag-ne-TAG_GLOBAL : goal.returns-then-tag-ne-TAG_GLOBAL
returns-then-tag-ne-TAG_GLOBAL c = no_global _ _ _ _ c.tag.ensures c.if-tag-ne-TAG_GLOBAL.true

pub returns : goal.returns
returns c = this_global _ _ _ _ c.tag.ensures _ _ (search rules) c.num-n.ensures c.has_flow.ensures
