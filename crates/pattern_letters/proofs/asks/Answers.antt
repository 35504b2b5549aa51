use Rattle.pattern_letters.proofs.Arguments.{asks_made, asks_held}
use Rattle.pattern_letters.proofs.asks.Goals as goal

pub returns-then-kind-eq-TAG_PATTERN_CONSTRUCTOR : goal.returns-then-kind-eq-TAG_PATTERN_CONSTRUCTOR
returns-then-kind-eq-TAG_PATTERN_CONSTRUCTOR c = asks_made _ _ _ c.tag-kind.ensures c.if-kind-eq-TAG_PATTERN_CONSTRUCTOR.true

pub returns-else-kind-eq-TAG_PATTERN_CONSTRUCTOR : goal.returns-else-kind-eq-TAG_PATTERN_CONSTRUCTOR
returns-else-kind-eq-TAG_PATTERN_CONSTRUCTOR c = asks_held _ _ _ c.tag-kind.ensures c.if-kind-eq-TAG_PATTERN_CONSTRUCTOR.false
