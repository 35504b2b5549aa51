use Rattle.model.specs.Words.{right, columns}
use Rattle.model.specs.Message.{bads_offset, ceilings_offset, weights_offset}
use Rattle.model.specs.Bads.{bad_rows}
use Rattle.model.proofs.Exact.Parts.{end_past}
use borrow.Author.Rules.{rules}
use Rattle.bads_rows.proofs.bad_number.Goals as goal

pub cell-requires : goal.cell-requires
unfolding weights_offset ceilings_offset
cell-requires c = let past = end_past c.args.s in search rules

pub returns : goal.returns
unfolding bad_rows right columns bads_offset
returns c = (c.cell.ensures, search rules)
