use Prim.Native.Nat.{◌-◌}
use Rattle.ceilings_form.specs.Parts.{part_entries}
use Rattle.ceilings_form.proofs.Reading.{so_far}
use Rattle.ceilings_form.proofs.entries.first_wrong.Given as goal

abbrev pub invariant-loop-e : goal.invariant-loop-e
invariant-loop-e l = so_far l.n l.most (part_entries l.ws l.part) l.count l.e l.least l.closed

abbrev pub decreases-loop-e : goal.decreases-loop-e
decreases-loop-e l = l.part.size - l.e
