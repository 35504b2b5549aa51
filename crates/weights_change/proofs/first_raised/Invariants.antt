-- The loop's invariant: the first line of all is the first of those from k on.
use Prim.Native.Nat.{◌-◌, ◌≤◌}
use mathlib.Core.Path.{◌≡◌}
use Rattle.model.specs.Index.{first}
use Rattle.model.specs.Weights.{change, above_zero}
use Rattle.steps.specs.Steps.{rule_of_step}
use Rattle.weights_change.specs.Changes.{weight_of}
use Rattle.weights_change.proofs.first_raised.Given as goal

abbrev pub invariant-loop-k : goal.invariant-loop-k
invariant-loop-k l = (first 0 l.upto (λ x. above_zero (change (weight_of l.weights l.lines l.n x) (rule_of_step l.step))) ≡ first l.k l.upto (λ x. above_zero (change (weight_of l.weights l.lines l.n x) (rule_of_step l.step)))) × (l.k ≤ l.upto)

abbrev pub decreases-loop-k : goal.decreases-loop-k
decreases-loop-k l = l.upto - l.k
