-- The part is `part` at its place, with its sizes.
use mathlib.Core.Path.{refl, sym}
use borrow.Author.Rules.{rules}
use Rattle.model.specs.Limits.{present}
use Rattle.model.specs.Message.{tables_offset, tables_part_of}
use Rattle.model.specs.Message.{tables_sizes}
use Rattle.message.proofs.tables_part.Goals as goal

pub part-requires : goal.part-requires
unfolding tables_offset
part-requires c = search rules

pub returns : goal.returns
unfolding tables_part_of
returns c =
    rw (← c.tables_at.ensures, ← c.table_cells-cells.ensures)
    (c.part.ensures (tables_sizes present c.args.s) refl (sym c.tables_outside.ensures))
