use Prim.Native.Nat.{◌-◌, ◌≤◌}
use Rattle.model.specs.Index.{gather}
use Rattle.model.specs.Rows.{program}
use Rattle.model.specs.Tables.{tables}
use Rattle.system_totals.specs.Lines.{lines}
use Rattle.system_totals.proofs.Lined.{of_state}
use Rattle.system_totals.proofs.Walk.{Walk}
use Rattle.system_listing.specs.Putting.{Put}
use Rattle.system_listing.proofs.write_rules.Given as goal

abbrev pub invariant-loop-i : goal.invariant-loop-i
invariant-loop-i l = Put l.initial.out l.out l.n 0 l.e (lines (gather 0 l.i (of_state (program l.ws l.s) (tables l.ws l.s)))) × Walk l.initial.at l.initial.tos l.initial.others l.at l.tos l.others × (l.i ≤ l.s.states)

abbrev pub decreases-loop-i : goal.decreases-loop-i
decreases-loop-i l = l.s.states - l.i
