use native.Mathlib.Omega.{arith}
use Rattle.ceilings_form.specs.Parts.{ceilings_part_of}
use Rattle.ceilings_form.proofs.Reading.{begins_low}
use Rattle.ceilings_form.proofs.entries.ceilings_part.Goals as goal

pub overflow_add-at : goal.overflow_add-at
overflow_add-at c = record { fits = omega (arith, c.ceilings_at-at.ensures, begins_low _ c.requires) }

pub returns : goal.returns
unfolding ceilings_part_of
returns c = rw c.ceilings_at-at.ensures
