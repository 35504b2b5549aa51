use Rattle.bits.specs.Bits.{Filled, renewed}
use Rattle.sets.proofs.renew.Given as goal

abbrev pub invariant-loop-z : goal.invariant-loop-z
invariant-loop-z l = Filled l.initial.t l.t l.p l.z (renewed l.out l.into l.initial.t l.a l.p l.q)
