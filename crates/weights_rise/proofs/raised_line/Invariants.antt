-- The loop's invariant: what all states give, those from i on give below the first line so far; the rules and rows of the
-- states before i are counted.
use Prim.Native.Nat.{◌-◌, ◌≤◌}
use Rattle.model.specs.Rows.{program}
use Rattle.model.specs.Tables.{tables}
use Rattle.system_totals.proofs.Lined.{Summed}
use Rattle.system_totals.proofs.Walk.{Walk}
use Rattle.weights_change.specs.Changes.{weight_of}
use Rattle.weights_rise.proofs.Rising.{SoFar}
use Rattle.weights_rise.proofs.raised_line.Given as goal

abbrev pub invariant-loop-i : goal.invariant-loop-i
invariant-loop-i l =
    SoFar (program l.ws l.s) (tables l.ws l.s) (weight_of l.weights l.s.lines l.n) l.s.lines l.i l.line × Summed (program l.ws l.s) (tables l.ws l.s) l.i l.rules l.rows × Walk l.initial.at l.initial.tos l.initial.others l.at l.tos l.others × (l.i ≤ l.s.states)

abbrev pub decreases-loop-i : goal.decreases-loop-i
decreases-loop-i l = l.s.states - l.i
