use Prim.Native.Nat.{ℕ, ◌<◌}
use Rattle.model.specs.Rows.{program}
use Rattle.value_letters.proofs.Values.{Headed}
use Rattle.value_letters.proofs.lacks_head.Given as goal

abbrev pub invariant-loop-i : goal.invariant-loop-i
invariant-loop-i l = (k : ℕ) → k < l.i → Headed (program l.ws l.s) l.v l.names k
