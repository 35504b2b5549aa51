use Prim.Native.Nat.{◌-◌, ◌≤◌}
use mathlib.Core.Path.{◌≡◌}
use mathlib.Core.Bool.{not}
use lib.Dec.{eqb}
use lib.ListN.{length}
use Rattle.ceilings.specs.Table.{held}
use Rattle.ceilings_letters.proofs.Holding.{HeldBelow}
use Rattle.ceilings_letters.proofs.held_letters.Given as goal

abbrev pub invariant-loop-x : goal.invariant-loop-x
invariant-loop-x l = HeldBelow l.s.states l.words (λ z. not (eqb (held l.limits l.s.ceilings l.k z) 0)) l.x l.within × (length l.within ≡ length l.initial.within) × (l.s.states ≤ l.x)

abbrev pub decreases-loop-x : goal.decreases-loop-x
decreases-loop-x l = l.n - l.x
