use Rattle.pattern_heads.proofs.Fitting.{same_built, same_other}
use Rattle.pattern_heads.proofs.same_constructor.Goals as goal

pub returns-then-tag-eq-TAG_BUILD : goal.returns-then-tag-eq-TAG_BUILD
returns-then-tag-eq-TAG_BUILD c = same_built c.requires.ready _ _ _ _ _ c.tag.ensures c.if-tag-eq-TAG_BUILD.true c.num.ensures c.num-then-tag-eq-TAG_BUILD.ensures

pub returns-else-tag-eq-TAG_BUILD : goal.returns-else-tag-eq-TAG_BUILD
returns-else-tag-eq-TAG_BUILD c = same_other c.requires.ready _ _ _ c.tag.ensures c.if-tag-eq-TAG_BUILD.false
