use native.Mathlib.Omega.{arith}
use mathlib.Core.Path.{◌∙◌}
use Rattle.ceilings.proofs.Cells.{row_in}
use Rattle.weights_change.proofs.Weighing.{weight_below, weight_past}
use Rattle.weights_change.proofs.weight_at.Goals as goal

pub weight-requires : goal.weight-requires
weight-requires c = record { k_lt_lines = c.requires.0; row = row_in _ c.args.n _ _ c.if-x-n.true c.requires.1 }

pub returns-then-x-n : goal.returns-then-x-n
returns-then-x-n c = record { value = c.weight.ensures.value ∙ weight_below _ _ _ _ _ c.if-x-n.true; upper_bound = c.weight.ensures.upper_bound }

pub returns-else-x-n : goal.returns-else-x-n
returns-else-x-n c = record { value = weight_past _ _ _ _ _ c.if-x-n.false; upper_bound = omega arith }
