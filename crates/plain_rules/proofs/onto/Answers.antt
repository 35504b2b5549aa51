use native.Mathlib.Omega.{arith}
use Rattle.rules.proofs.States.{index_small}
use Rattle.plain_rules.proofs.onto.Goals as goal

pub overflow_cast-result : goal.overflow_cast-result
overflow_cast-result c = omega (arith, index_small c.requires.ready _ _ c.onward-x.ensures)

pub returns : goal.returns
returns c = c.onward-x.ensures
