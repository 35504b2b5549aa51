use native.Mathlib.Omega.{arith}
use Rattle.positions.proofs.Placed.{takes_yes, takes_no, function_row}
use Rattle.positions.proofs.takes.Goals as goal

pub overflow_add-f : goal.overflow_add-f
overflow_add-f c = let z = function_row _ _ _ _ c.requires.rows c.tag.ensures c.in-3.is in record { fits = omega arith }

pub returns-in-3 : goal.returns-in-3
returns-in-3 c = takes_yes _ _ _ c.tag.ensures _ _ c.in-3.is c.num.ensures

pub returns-in_default : goal.returns-in_default
returns-in_default c = takes_no _ _ _ c.tag.ensures _ c.in_default.in_default-own.rest.1
