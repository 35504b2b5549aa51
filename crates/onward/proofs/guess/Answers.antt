use native.Mathlib.Omega.{arith}
use Rattle.onward.proofs.guess.Goals as goal

pub overflow_cast-result : goal.overflow_cast-result
overflow_cast-result c = omega (arith, c.type_inv.at c.args.r)

pub returns-then-r-at : goal.returns-then-r-at
returns-then-r-at c = omega (arith, c.type_inv.at c.args.r)

pub returns-else-r-at : goal.returns-else-r-at
returns-else-r-at c = omega arith
