use Prim.Native.Nat.{◌-◌}
use mathlib.Core.Path.{◌≡◌}
use Rattle.layout.specs.Tables.{hop}
use Rattle.layout.proofs.ends.hops.Given as goal

abbrev pub invariant-loop : goal.invariant-loop
invariant-loop l = hop l.afters l.n l.q ≡ hop l.afters (l.n - l.counter) l.at
