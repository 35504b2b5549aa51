use Prim.Native.Nat.{◌≤◌}
use Rattle.model.specs.Rows.{program}
use Rattle.matching_sets.specs.Sets.{Joined}
use Rattle.matching_sets.proofs.Joining.{equals_before}
use Rattle.matching_sets.proofs.equals.fill_equals.Given as goal

abbrev pub invariant-loop-u : goal.invariant-loop-u
invariant-loop-u l = Joined l.w l.q (equals_before (program l.ws l.s) l.flow l.w l.n l.q l.u) l.initial.may l.may × (l.u ≤ l.u-end)
