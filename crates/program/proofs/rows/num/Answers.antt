use Rattle.model.specs.Words.{right, columns}
use Rattle.model.specs.Rows.{program, num}
use Rattle.program.proofs.rows.num.Goals as goal

-- src/lib.rt:32:1
pub returns : goal.returns
unfolding program num right columns
returns c = c.column.ensures
