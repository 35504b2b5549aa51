use Prim.Native.Nat.{◌+◌, ◌-◌, ◌≤◌}
use Rattle.model.specs.Index.{gather}
use Rattle.model.specs.Rows.{Kind}
use Rattle.rules.specs.Listed.{kind_effect}
use Rattle.rules.specs.Added.{Added}
use Rattle.bits.specs.Bits.{member}
use Rattle.class_rules.specs.Asked.{letter_turn}
use Rattle.class_rules.proofs.letter_rules.Given as goal

abbrev pub invariant-loop-y : goal.invariant-loop-y
invariant-loop-y l = ((k : Kind) → Added k l.initial.tos l.initial.others l.n l.tos l.others l.e (λ i. gather l.from l.y (letter_turn l.s.states (member l.found l.words 0) (kind_effect k) l.next i))) × (l.from ≤ l.y) × (l.y ≤ l.to) × (l.e + l.from ≤ l.n + l.y)

abbrev pub decreases-loop-y : goal.decreases-loop-y
decreases-loop-y l = l.to - l.y
