use native.Mathlib.Omega.{arith}
use Rattle.weights_form.proofs.Lines.{part_in, place_low, weights_pass, weight_wrong}
use Rattle.weights_form.proofs.weight_check.Goals as goal

pub weights_part-part-requires : goal.weights_part-part-requires
weights_part-part-requires c = c.requires.whole.limits

pub first_wrong-requires : goal.first_wrong-requires
first_wrong-requires c = record { part_held = rw c.weights_part-part.ensures (part_in _ _ c.requires.whole c.requires.le_lines); n_le_max_counters = c.requires.n_le_max_counters }

pub overflow_add-here : goal.overflow_add-here
overflow_add-here c = let l = place_low _ _ _ _ _ c.weights_part-part.ensures c.first_wrong.ensures c.requires.whole.limits _ c.in-Some.is in record { fits = omega arith }

pub returns-in-None : goal.returns-in-None
returns-in-None c = weights_pass _ _ _ _ _ c.weights_part-part.ensures c.first_wrong.ensures c.in-None.is

pub returns-in-Some : goal.returns-in-Some
returns-in-Some c = weight_wrong _ _ _ _ _ c.weights_part-part.ensures c.first_wrong.ensures _ c.in-Some.is
