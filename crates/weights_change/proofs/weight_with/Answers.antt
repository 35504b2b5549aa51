use native.Mathlib.Omega.{arith}
use Rattle.weights_change.proofs.Weighing.{with_none, with_both}
use Rattle.weights_change.proofs.weight_with.Goals as goal

pub returns-then-is_both : goal.returns-then-is_both
returns-then-is_both c = record { value = with_both _ _ _ _ c.weight_at-first.ensures.value _ _ c.if-is_both.true c.weight_at.ensures.value; upper_bound = omega (arith, c.weight_at-first.ensures.upper_bound, c.weight_at.ensures.upper_bound) }

pub returns-else-is_both : goal.returns-else-is_both
returns-else-is_both c = record { value = with_none _ _ _ _ c.weight_at-first.ensures.value _ c.if-is_both.false; upper_bound = omega (arith, c.weight_at-first.ensures.upper_bound) }
