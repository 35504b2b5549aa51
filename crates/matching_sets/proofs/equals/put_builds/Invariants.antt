use Prim.Native.Nat.{◌+◌, ◌-◌}
use Rattle.model.specs.Rows.{program, num}
use Rattle.matching_sets.proofs.Joining.{Building}
use Rattle.matching_sets.proofs.equals.put_builds.Given as goal

abbrev pub invariant-loop-v : goal.invariant-loop-v
invariant-loop-v l = Building (program l.ws l.s) (num (program l.ws l.s) (l.u + 1)) l.w l.q l.initial.sets l.sets l.v

abbrev pub decreases-loop-v : goal.decreases-loop-v
decreases-loop-v l = l.s.rows - l.v
