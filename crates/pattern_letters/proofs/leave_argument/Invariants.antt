use Prim.Native.Nat.{◌+◌, ◌-◌, ◌≤◌}
use mathlib.Core.Path.{◌≡◌}
use Rattle.model.specs.Rows.{program}
use Rattle.model.specs.Tables.{tables}
use Rattle.pattern_letters.specs.Picked.{leaves_below, Left}
use Rattle.pattern_letters.proofs.leave_argument.Given as goal

abbrev pub invariant-loop-s : goal.invariant-loop-s
invariant-loop-s l = (l.end ≡ l.s.constructors + 2) × (l.from ≤ l.end) × Left (program l.ws l.s) (tables l.ws l.s) (leaves_below (program l.ws l.s) (tables l.ws l.s) l.i l.n l.q l.from) l.initial.part l.part

abbrev pub decreases-loop-s : goal.decreases-loop-s
decreases-loop-s l = l.end - l.from
