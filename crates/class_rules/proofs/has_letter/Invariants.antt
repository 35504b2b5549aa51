use Prim.Native.Nat.{◌-◌, ◌≤◌}
use mathlib.Core.Path.{◌≡◌}
use Rattle.bits.specs.Bits.{member}
use Rattle.model.specs.Index.{any}
use Rattle.class_rules.proofs.has_letter.Given as goal

abbrev pub invariant-loop-y : goal.invariant-loop-y
invariant-loop-y l = (any l.from l.to (member l.set l.words 0) ≡ any l.y l.to (member l.set l.words 0)) × (l.from ≤ l.y)

abbrev pub decreases-loop-y : goal.decreases-loop-y
decreases-loop-y l = l.to - l.y
