use Prim.Native.Nat.{◌-◌}
use Rattle.model.specs.Rows.{program}
use Rattle.model.specs.Tables.{tables}
use Rattle.branches.proofs.Walk.{Taking}
use Rattle.branches.proofs.taken_bits.Given as goal

abbrev pub invariant-loop : goal.invariant-loop
invariant-loop l = Taking (program l.ws l.s) (tables l.ws l.s) l.sets l.n l.q l.count l.row (l.count - l.counter) l.bits l.weight
