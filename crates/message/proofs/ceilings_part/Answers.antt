-- The part is `part` at its place, with its sizes.
use mathlib.Core.Path.{refl, sym}
use borrow.Author.Rules.{rules}
use Rattle.model.specs.Message.{ceilings_offset, ceilings_part_of}
use Rattle.model.specs.Message.{ceilings_sizes}
use Rattle.message.proofs.ceilings_part.Goals as goal

pub part-requires : goal.part-requires
unfolding ceilings_offset
part-requires c = search rules

pub returns : goal.returns
unfolding ceilings_part_of
returns c =
    rw (← c.ceilings_at.ensures)
    (c.part.ensures (ceilings_sizes c.args.s) refl (sym c.ceilings_outside.ensures))
