use Prim.Native.Nat.{◌-◌, ◌<◌}
use mathlib.Core.Path.{◌≡◌}
use Rattle.model.specs.Limits.{max_rows}
use Rattle.model.specs.Index.{all}
use Rattle.model.specs.Rows.{program}
use Rattle.model.specs.Heads.{call_at, parameters}
use Rattle.model.specs.Tables.{tables}
use Rattle.model.specs.Closed.{passes}
use Rattle.asks.proofs.Asking.{passing}
use Rattle.asks.proofs.passes.Given as goal

abbrev pub invariant-loop-i : goal.invariant-loop-i
invariant-loop-i l = (l.n < max_rows) × (passes (tables l.ws l.s) (call_at (program l.ws l.s) l.r) (parameters (program l.ws l.s) l.f) ≡ all l.i l.n (passing (program l.ws l.s) (tables l.ws l.s) l.r l.f))
