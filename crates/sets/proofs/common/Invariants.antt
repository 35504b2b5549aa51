use Prim.Native.Nat.{◌*◌}
use mathlib.Core.Path.{◌≡◌}
use mathlib.Core.Bool.{not}
use lib.Dec.{eqb}
use Rattle.model.specs.Index.{any}
use Rattle.bits.specs.Bits.{shared, shared_held}
use Rattle.sets.proofs.common.Given as goal

abbrev pub invariant-loop-z : goal.invariant-loop-z
invariant-loop-z l = (any 0 (64 * l.z) (shared l.a l.may l.w l.n l.m) ≡ not (eqb l.some 0)) × (any 0 (64 * l.z) (λ v. not (shared_held l.a l.may l.held l.w l.n l.m v)) ≡ not (eqb l.lack 0))
