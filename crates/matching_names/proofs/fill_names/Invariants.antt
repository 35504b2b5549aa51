use Prim.Native.Nat.{◌-◌, ◌≤◌}
use Rattle.model.specs.Rows.{program}
use Rattle.lists.specs.Lists.{listed}
use Rattle.matching_sets.specs.Sets.{Joined}
use Rattle.matching_names.specs.Names.{does_value_fit}
use Rattle.matching_names.proofs.Naming.{names_before}
use Rattle.matching_names.proofs.fill_names.Given as goal

abbrev pub invariant-loop-i : goal.invariant-loop-i
invariant-loop-i l = Joined l.words l.q (names_before (listed l.ws l.l) (does_value_fit (program l.ws l.s) l.may l.q) l.words l.q l.i) l.initial.fitting l.fitting × (l.i ≤ l.i-end)

abbrev pub decreases-loop-i : goal.decreases-loop-i
decreases-loop-i l = l.i-end - l.i
