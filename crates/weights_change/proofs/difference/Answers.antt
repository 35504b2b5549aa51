use native.Mathlib.Omega.{arith}
use mathlib.Core.Path.{◌∙◌}
use mir.Facts.{to_z-of_z}
use Rattle.weights_change.proofs.Weighing.{difference_is, difference_fits}
use Rattle.weights_change.proofs.difference.Goals as goal

pub overflow_sub-result : goal.overflow_sub-result
overflow_sub-result c = difference_fits c.args.put c.args.taken (omega (arith, c.requires.0)) (omega (arith, c.requires.1))

pub returns : goal.returns
returns c = to_z-of_z (difference_fits c.args.put c.args.taken (omega (arith, c.requires.0)) (omega (arith, c.requires.1))) ∙ difference_is c.args.put c.args.taken (omega (arith, c.requires.0)) (omega (arith, c.requires.1))
