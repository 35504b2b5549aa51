use Rattle.model.specs.Words.{left, columns}
use Rattle.model.specs.Rows.{program, tag}
use Rattle.program.proofs.rows.tag.Goals as goal

-- src/lib.rt:24:1
pub returns : goal.returns
unfolding program tag left columns
returns c = c.column.ensures
