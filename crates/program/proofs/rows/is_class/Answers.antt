use Rattle.model.specs.Words.{columns}
use Rattle.model.specs.Rows.{program}
use Rattle.model.specs.Heads.{is_class_of}
use Rattle.program.proofs.Items.{with_tag, without_tag}
use Rattle.program.proofs.rows.is_class.Goals as goal

pub returns-then-tag-eq-TAG_SPAWN : goal.returns-then-tag-eq-TAG_SPAWN
unfolding is_class_of
returns-then-tag-eq-TAG_SPAWN c = with_tag _ _ _ c.tag.ensures 6 c.if-tag-eq-TAG_SPAWN.true

pub returns-else-tag-eq-TAG_SPAWN : goal.returns-else-tag-eq-TAG_SPAWN
unfolding is_class_of program columns
returns-else-tag-eq-TAG_SPAWN c = without_tag _ _ _ c.tag.ensures 6 c.if-tag-eq-TAG_SPAWN.false
