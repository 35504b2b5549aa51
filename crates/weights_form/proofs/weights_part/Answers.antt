use native.Mathlib.Omega.{arith}
use Rattle.weights_form.specs.Form.{weights_part_of}
use Rattle.weights_form.proofs.Lines.{begins_low}
use Rattle.weights_form.proofs.weights_part.Goals as goal

pub overflow_add-at : goal.overflow_add-at
overflow_add-at c = record { fits = omega (arith, c.weights_at-at.ensures, begins_low _ c.requires) }

pub returns : goal.returns
unfolding weights_part_of
returns c = rw c.weights_at-at.ensures
