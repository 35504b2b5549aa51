use Rattle.model.specs.Words.{columns}
use Rattle.model.specs.Rows.{program}
use Rattle.matching.proofs.Leaves.{leaf_row, made_values, held_values}
use Rattle.matching.proofs.codes.values_code.Goals as goal

pub common-requires : goal.common-requires
unfolding program columns
common-requires c = (leaf_row _ _ _ _ c.width-w.ensures c.requires.pattern_asked.0.row, leaf_row _ _ _ _ c.width-w.ensures c.requires.pattern_asked.1.may_row, leaf_row _ _ _ _ c.width-w.ensures c.requires.pattern_asked.1.held_row)

pub returns-then-kind-eq-TAG_PATTERN_CONSTRUCTOR : goal.returns-then-kind-eq-TAG_PATTERN_CONSTRUCTOR
returns-then-kind-eq-TAG_PATTERN_CONSTRUCTOR c = made_values _ _ _ _ _ _ _ _ _ c.width-w.ensures c.requires.pattern_asked.1 c.tag-kind.ensures c.if-kind-eq-TAG_PATTERN_CONSTRUCTOR.true _ c.common.ensures

pub met_code-requires : goal.met_code-requires
unfolding program columns
met_code-requires c = (leaf_row _ _ _ _ c.width-w-then-kind-eq-TAG_PATTERN_HELD.ensures c.requires.pattern_asked.0.row, leaf_row _ _ _ _ c.width-w-then-kind-eq-TAG_PATTERN_HELD.ensures c.requires.pattern_asked.1.may_row)

pub returns-then-kind-eq-TAG_PATTERN_HELD : goal.returns-then-kind-eq-TAG_PATTERN_HELD
returns-then-kind-eq-TAG_PATTERN_HELD c = held_values _ _ _ _ _ _ _ _ _ c.width-w-then-kind-eq-TAG_PATTERN_HELD.ensures c.requires.pattern_asked.1 c.tag-kind.ensures c.if-kind-eq-TAG_PATTERN_HELD.true _ c.met_code.ensures
