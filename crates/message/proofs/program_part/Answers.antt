-- The part is `part` at its place, with its sizes.
use mathlib.Core.Path.{refl, sym}
use Rattle.model.specs.Limits.{present}
use Rattle.model.specs.Message.{program_part_of}
use Rattle.model.specs.Message.{program_sizes}
use Rattle.message.proofs.program_part.Goals as goal

pub returns : goal.returns
unfolding program_part_of
returns c = c.part.ensures (program_sizes present c.args.s) refl (sym c.program_outside.ensures)
