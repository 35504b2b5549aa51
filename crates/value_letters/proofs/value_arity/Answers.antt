use Rattle.value_letters.proofs.Values.{arity_built, arity_plain}
use Rattle.value_letters.proofs.value_arity.Goals as goal

pub returns-then-tag-eq-TAG_BUILD : goal.returns-then-tag-eq-TAG_BUILD
returns-then-tag-eq-TAG_BUILD c = arity_built _ _ _ _ _ c.tag.ensures c.if-tag-eq-TAG_BUILD.true c.num.ensures c.num-then-tag-eq-TAG_BUILD.ensures

pub returns-else-tag-eq-TAG_BUILD : goal.returns-else-tag-eq-TAG_BUILD
returns-else-tag-eq-TAG_BUILD c = arity_plain _ _ _ c.tag.ensures c.if-tag-eq-TAG_BUILD.false
