use Prim.Native.Nat.{◌+◌, ◌*◌}
use native.Mathlib.Omega.{arith}
use borrow.Author.Rules.{rules}
use Rattle.ceilings.proofs.limit.Goals as goal

pub overflow_cast-result : goal.overflow_cast-result
overflow_cast-result c = let a = c.args in omega (arith, c.type_inv.limits (a.x * a.ceilings + a.k))

pub returns : goal.returns
returns c =
    let a = c.args in record { value = search rules; upper_bound = omega (arith, c.type_inv.limits (a.x * a.ceilings + a.k)) }
