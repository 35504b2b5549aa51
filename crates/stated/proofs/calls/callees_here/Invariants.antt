use Prim.Native.Nat.{◌-◌, ◌≤◌}
use mathlib.Core.Path.{◌≡◌}
use Rattle.model.specs.Index.{all}
use Rattle.model.specs.Rows.{program}
use Rattle.model.specs.Tables.{tables, state_at}
use Rattle.stated.specs.Stated.{callees_of}
use Rattle.stated.proofs.Giving.{callee_at}
use Rattle.stated.proofs.calls.callees_here.Given as goal

abbrev pub invariant-loop-j : goal.invariant-loop-j
invariant-loop-j l = (callees_of (program l.ws l.s) (tables l.ws l.s) (state_at (tables l.ws l.s) l.i) l.r ≡ all l.j l.to (callee_at (program l.ws l.s) (tables l.ws l.s) (state_at (tables l.ws l.s) l.i) l.r)) × (l.to ≤ 65536)
