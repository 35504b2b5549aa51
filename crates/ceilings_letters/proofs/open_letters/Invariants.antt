use Prim.Native.Nat.{◌-◌, ◌≤◌}
use mathlib.Core.Path.{◌≡◌}
use mathlib.Core.Bool.{not}
use lib.ListN.{length}
use Rattle.ceilings_letters.specs.Letters.{more_in}
use Rattle.ceilings_letters.proofs.Holding.{HeldBelow}
use Rattle.ceilings_letters.proofs.open_letters.Given as goal

abbrev pub invariant-loop-x : goal.invariant-loop-x
invariant-loop-x l = HeldBelow l.s.states l.words (λ z. not (more_in l.limits l.s.ceilings l.s.states l.k l.mask z)) l.x l.uncovered × (length l.uncovered ≡ length l.initial.uncovered) × (l.s.states ≤ l.x)

abbrev pub decreases-loop-x : goal.decreases-loop-x
decreases-loop-x l = l.n - l.x
