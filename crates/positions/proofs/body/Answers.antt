use native.Mathlib.Omega.{arith}
use Rattle.positions.proofs.Placed.{function_low, body_told}
use Rattle.positions.proofs.body.Goals as goal

pub overflow_add-result : goal.overflow_add-result
overflow_add-result c = let l = function_low c.requires.ready c.args.f c.requires.f_value in record { fits = omega arith }

pub overflow_add-f : goal.overflow_add-f
overflow_add-f c = let l = function_low c.requires.ready c.args.f c.requires.f_value in record { fits = omega arith }

pub overflow_add-result-2 : goal.overflow_add-result-2
overflow_add-result-2 c = let l = body_told c.requires.ready c.args.f _ c.requires.f_value c.num.ensures in record { fits = omega (arith, l.1) }

pub returns : goal.returns
returns c = (body_told c.requires.ready c.args.f _ c.requires.f_value c.num.ensures).0
