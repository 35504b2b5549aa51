use Rattle.model.specs.Words.{columns}
use Rattle.model.specs.Rows.{program}
use Rattle.model.specs.Tables.{is_return_of}
use Rattle.program.proofs.Items.{with_tag, without_tag}
use Rattle.evidence.proofs.ranges.is_return.Goals as goal

pub returns-then-tag-eq-TAG_CALL : goal.returns-then-tag-eq-TAG_CALL
unfolding is_return_of
returns-then-tag-eq-TAG_CALL c = with_tag _ _ _ c.tag.ensures 4 c.if-tag-eq-TAG_CALL.true

pub returns-else-tag-eq-TAG_CALL : goal.returns-else-tag-eq-TAG_CALL
unfolding is_return_of program columns
returns-else-tag-eq-TAG_CALL c = without_tag _ _ _ c.tag.ensures 4 c.if-tag-eq-TAG_CALL.false
