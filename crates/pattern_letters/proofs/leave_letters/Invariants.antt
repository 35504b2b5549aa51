use Prim.Native.Nat.{◌-◌, ◌≤◌}
use mathlib.Core.Path.{◌≡◌}
use Rattle.model.specs.Limits.{max_depth}
use Rattle.model.specs.Rows.{program}
use Rattle.model.specs.Closed.{subpattern}
use Rattle.model.specs.Tables.{tables}
use Rattle.pattern_letters.specs.Picked.{leaves_first, Left}
use Rattle.pattern_letters.proofs.leave_letters.Given as goal

abbrev pub invariant-loop-i : goal.invariant-loop-i
invariant-loop-i l = (l.i ≤ l.arity) × (l.sub ≡ subpattern (program l.ws l.s) max_depth l.q l.i) × Left (program l.ws l.s) (tables l.ws l.s) (leaves_first (program l.ws l.s) (tables l.ws l.s) l.q l.v l.i) l.initial.part l.part

abbrev pub decreases-loop-i : goal.decreases-loop-i
decreases-loop-i l = l.arity - l.i
