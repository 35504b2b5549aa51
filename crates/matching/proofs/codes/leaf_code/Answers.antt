use mathlib.Core.Bool.{not}
use mathlib.Core.Path.{ap}
use Rattle.matching.proofs.Leaves.{leaf_row, leaf_none, leaf_any, leaf_name, leaf_flow, held_code, lack_code}
use Rattle.matching.proofs.codes.leaf_code.Goals as goal

pub returns-then-not-meets : goal.returns-then-not-meets
returns-then-not-meets c = leaf_none _ _ _ _ _ _ c.width-w.ensures c.requires.pattern_asked.1 _ c.meets.ensures (ap not c.if-not-meets.true)

pub returns-then-kind-ne-TAG_PATTERN_NAME : goal.returns-then-kind-ne-TAG_PATTERN_NAME
returns-then-kind-ne-TAG_PATTERN_NAME c = leaf_any _ _ _ _ _ _ c.width-w.ensures c.requires.pattern_asked.1 _ c.meets.ensures (ap not c.if-not-meets.false) c.if-kind-ne-TAG_PATTERN_NAME.true

pub within-requires : goal.within-requires
within-requires c = (leaf_row _ _ _ _ c.width-w.ensures c.requires.pattern_asked.0.row, leaf_row _ _ _ _ c.width-w.ensures (leaf_flow c.requires.flow_ready _ _ c.requires.pattern_asked.0.stands c.requires.pattern_asked.1 c.if-kind-ne-TAG_PATTERN_NAME.false c.num-name.ensures).row)

pub returns-then-within : goal.returns-then-within
returns-then-within c = leaf_name c.requires.flow_ready _ _ c.requires.pattern_asked.0.stands c.requires.pattern_asked.1 c.if-kind-ne-TAG_PATTERN_NAME.false c.num-name.ensures _ _ _ c.width-w.ensures _ c.meets.ensures (ap not c.if-not-meets.false) _ c.within.ensures _ (held_code _ c.if-within.true)

pub returns-else-within : goal.returns-else-within
returns-else-within c = leaf_name c.requires.flow_ready _ _ c.requires.pattern_asked.0.stands c.requires.pattern_asked.1 c.if-kind-ne-TAG_PATTERN_NAME.false c.num-name.ensures _ _ _ c.width-w.ensures _ c.meets.ensures (ap not c.if-not-meets.false) _ c.within.ensures _ (lack_code _ c.if-within.false)
