use Prim.Native.Nat.{◌-◌, ◌≤◌}
use mathlib.Core.List.{[], ◌∷◌}
use Rattle.model.specs.Index.{gather}
use Rattle.model.specs.Rows.{kind}
use Rattle.rules.specs.Listed.{listed_rule}
use Rattle.system_totals.specs.Lines.{lines}
use Rattle.system_listing.specs.Putting.{Put}
use Rattle.system_listing.proofs.put_rules.Given as goal

abbrev pub invariant-loop-k : goal.invariant-loop-k
invariant-loop-k l = Put l.initial.out l.out l.n l.x l.e (lines (gather 0 l.k (λ j. listed_rule (kind l.head) l.i l.tos l.others j ∷ []))) × (l.k ≤ l.m)

abbrev pub decreases-loop-k : goal.decreases-loop-k
decreases-loop-k l = l.m - l.k
