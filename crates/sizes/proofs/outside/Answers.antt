-- Each return is one test that failed, or the number of those behind.
use native.Mathlib.Omega.{arith}
use Rattle.sizes.proofs.Limits.{outside_below, outside_above, outside_behind}
use Rattle.sizes.proofs.outside.Goals as goal

pub returns-then-size-least : goal.returns-then-size-least
returns-then-size-least c = (λ ls _. outside_below _ _ _ ls c.if-size-least.true, omega arith)

pub returns-then-size-most : goal.returns-then-size-most
returns-then-size-most c = (λ ls _. outside_above _ _ _ ls c.if-size-most.true, omega arith)

pub returns : goal.returns
returns c = (λ ls e. outside_behind _ _ _ ls _ c.if-size-least.false c.if-size-most.false e, omega arith)
