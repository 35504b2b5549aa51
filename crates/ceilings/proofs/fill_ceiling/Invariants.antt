-- The loop's invariant: the entries before i are filled in, those from i on are to come.
use Prim.Native.Nat.{◌-◌}
use Rattle.ceilings_form.specs.Parts.{part_entries}
use Rattle.ceilings.proofs.Filling.{Filling}
use Rattle.ceilings.proofs.fill_ceiling.Given as goal

abbrev pub invariant-loop-part : goal.invariant-loop-part
invariant-loop-part l = Filling l.n (part_entries l.ws l.part) l.count l.k l.e l.i l.initial.limits l.limits

abbrev pub decreases-loop-part : goal.decreases-loop-part
decreases-loop-part l = l.part.size - l.i
