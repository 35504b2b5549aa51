use Prim.Native.Nat.{◌-◌}
use Rattle.model.specs.Rows.{program}
use Rattle.model.specs.Tables.{tables}
use Rattle.matching_sets.proofs.Filling.{Filling}
use Rattle.matching_sets.proofs.patterns.fill_pattern.Given as goal

abbrev pub invariant-loop-v : goal.invariant-loop-v
invariant-loop-v l = Filling (program l.ws l.s) (tables l.ws l.s) l.w l.q l.initial.may l.initial.held l.may l.held l.v

abbrev pub decreases-loop-v : goal.decreases-loop-v
decreases-loop-v l = l.s.rows - l.v
