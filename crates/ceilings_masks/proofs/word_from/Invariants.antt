-- The loop's invariant: the first j bits say which ceilings reach the limit, and no other is set.
use Prim.Native.Nat.{◌-◌, ◌+◌, ◌*◌, ◌≤◌}
use Rattle.ceilings_masks.specs.Compared.{reaches}
use Rattle.ceilings_masks.proofs.Comparing.{WordUpto}
use Rattle.ceilings_masks.proofs.word_from.Given as goal

abbrev pub invariant-loop-j : goal.invariant-loop-j
invariant-loop-j l = WordUpto l.w l.j (λ b. reaches l.limits l.ceilings l.x l.least (64 * l.i + b)) × (l.j ≤ l.end)

abbrev pub decreases-loop-j : goal.decreases-loop-j
decreases-loop-j l = l.end - l.j
