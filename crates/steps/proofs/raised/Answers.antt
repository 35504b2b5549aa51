use Prim.Native.Nat.{◌<◌}
use native.Mathlib.Omega.{arith}
use Rattle.steps.proofs.Raising.{truth_fits, sum_fits, raised_is, raised_small}
use borrow.Author.Rules.{rules}
use Rattle.steps.proofs.raised.Goals as goal

pub overflow_mul-result : goal.overflow_mul-result
overflow_mul-result c = search (rules, truth_fits)

pub overflow_add-result : goal.overflow_add-result
overflow_add-result c = search (rules, sum_fits)

pub returns : goal.returns
returns c =
    let small : c.args.limit < 65536 = search rules in record { value = raised_is _; upper_bound = raised_small _ _ (omega (arith, small)) (raised_is _) }
