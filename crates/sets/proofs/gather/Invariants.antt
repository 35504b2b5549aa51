use Prim.Native.Nat.{◌*◌}
use mathlib.Core.Path.{◌≡◌}
use mathlib.Core.Bool.{not}
use lib.Dec.{eqb}
use Rattle.model.specs.Index.{any}
use Rattle.bits.specs.Bits.{flipped}
use Rattle.sets.proofs.gather.Given as goal

abbrev pub invariant-loop-z : goal.invariant-loop-z
invariant-loop-z l = any 0 (64 * l.z) (flipped l.flip l.a l.b l.w l.n l.m) ≡ not (eqb l.found 0)
