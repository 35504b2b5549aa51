use Prim.Native.Nat.{◌-◌}
use mathlib.Core.Path.{◌≡◌}
use Rattle.model.specs.Index.{all}
use Rattle.model.specs.Tables.{tables}
use Rattle.stated.specs.Stated.{goes_on}
use Rattle.stated.proofs.gives.go_on.Given as goal

abbrev pub invariant-loop-j : goal.invariant-loop-j
invariant-loop-j l = all l.from l.to (goes_on (tables l.ws l.s) l.r) ≡ all l.j l.to (goes_on (tables l.ws l.s) l.r)
