use Prim.Native.Nat.{◌-◌}
use Rattle.model.specs.Rows.{program}
use Rattle.opening.proofs.Openings.{GlobalsLeft}
use Rattle.opening.proofs.start.Given as goal

abbrev pub invariant-loop : goal.invariant-loop
invariant-loop l = GlobalsLeft (program l.ws l.s) (l.s.functions - l.counter) l.q
