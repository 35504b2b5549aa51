-- The part is `part` at its place, with its sizes.
use mathlib.Core.Path.{refl, sym}
use borrow.Author.Rules.{rules}
use Rattle.model.specs.Message.{bads_offset, bads_part_of}
use Rattle.model.specs.Message.{bads_sizes}
use Rattle.message.proofs.bads_part.Goals as goal

pub part-requires : goal.part-requires
unfolding bads_offset
part-requires c = search rules

pub returns : goal.returns
unfolding bads_part_of
returns c =
    rw (← c.bads_at.ensures)
    (c.part.ensures (bads_sizes c.args.s) refl (sym c.bads_outside.ensures))
