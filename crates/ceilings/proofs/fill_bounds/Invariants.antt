-- The loop's invariant: the ceilings before k are in the tables, and the parts of the others are blank.
use Prim.Native.Nat.{◌-◌, ◌≤◌}
use mathlib.Core.Path.{◌≡◌}
use lib.ListN.{length}
use Rattle.ceilings_form.specs.Parts.{part_entries}
use Rattle.ceilings.proofs.Filling.{Filled}
use Rattle.ceilings.proofs.fill_bounds.Given as goal

abbrev pub invariant-loop-k : goal.invariant-loop-k
invariant-loop-k l = Filled l.n (part_entries l.ws l.part) l.count l.k l.e l.limits l.starts × (l.k ≤ l.count) × (length l.limits ≡ length l.initial.limits) × (length l.starts ≡ length l.initial.starts)

abbrev pub decreases-loop-k : goal.decreases-loop-k
decreases-loop-k l = l.count - l.k
