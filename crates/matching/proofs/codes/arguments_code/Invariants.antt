use Prim.Native.Nat.{◌-◌}
use Rattle.model.specs.Rows.{program}
use Rattle.model.specs.Tables.{tables}
use Rattle.matching.proofs.Arguments.{Arguments}
use Rattle.matching.proofs.codes.arguments_code.Given as goal

abbrev pub invariant-loop-i : goal.invariant-loop-i
invariant-loop-i l = Arguments (program l.ws l.s) (tables l.ws l.s) l.q l.v l.arity l.worst l.sub l.i
