use Prim.Native.Nat.{◌-◌}
use Rattle.model.specs.Rows.{program}
use Rattle.model.specs.Tables.{tables, state_at}
use Rattle.branches.proofs.Walk.{Bodies}
use Rattle.branches.proofs.bodies_closed.Given as goal

abbrev pub invariant-loop : goal.invariant-loop
invariant-loop l = Bodies (program l.ws l.s) (tables l.ws l.s) (state_at (tables l.ws l.s) l.i) l.count l.q l.bits l.row (l.count - l.counter) l.more
