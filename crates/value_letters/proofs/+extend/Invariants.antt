use Prim.Native.Nat.{◌-◌, ◌≤◌, ◌<◌}
use mathlib.Core.Path.{◌≡◌}
use mathlib.Core.Bool.{true}
use Rattle.bits.specs.Bits.{member}
use Rattle.model.specs.Rows.{program}
use Rattle.model.specs.Tables.{tables}
use Rattle.ascending.specs.Numbers.{Added}
use Rattle.value_letters.proofs.Extending.{Turned}
use Rattle.value_letters.proofs.+extend.Given as goal

abbrev pub decreases-extend : goal.decreases-extend
decreases-extend l = 9 - l.i

abbrev pub invariant-loop-h : goal.invariant-loop-h
invariant-loop-h l =
    Added (Turned (program l.ws l.s) (tables l.ws l.s) l.v l.arity l.i l.prefix l.h) l.most l.from l.n l.initial.codes l.m l.codes × (l.h ≤ l.heads) × (l.h < l.heads → member l.names 2 l.name l.h ≡ true)

abbrev pub decreases-loop-h : goal.decreases-loop-h
decreases-loop-h l =
    l.heads - l.h
