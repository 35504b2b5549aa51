use Prim.Native.Nat.{◌+◌, ◌*◌, ◌≤◌, ◌<◌}
use native.Mathlib.Omega.{arith}
use Rattle.pattern_letters.proofs.Lessening.{set_small}
use Rattle.pattern_letters.proofs.argument_set.Goals as goal

small : {k i h : _} → k ≤ 64 → i < 8 → h < k + 2 → (i + 1) * (k + 2) + h < 4096
small {k} {i} {h} a b d = set_small (i + 1) (k + 2) h (omega arith) (omega arith) d

pub overflow_mul-result : goal.overflow_mul-result
overflow_mul-result c = omega (arith, small c.requires.within_limits.constructors c.requires.i_lt_max_arity.0 c.requires.i_lt_max_arity.1)

pub overflow_add-result-3 : goal.overflow_add-result-3
overflow_add-result-3 c = omega (arith, small c.requires.within_limits.constructors c.requires.i_lt_max_arity.0 c.requires.i_lt_max_arity.1)
