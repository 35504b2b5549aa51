-- The loop's invariant: the counters of the entries before i are done.
use Prim.Native.Nat.{◌-◌}
use mathlib.Core.Path.{◌≡◌}
use lib.ListN.{length}
use Rattle.model.specs.Ceilings.{ceiling_entries}
use Rattle.ceilings_form.specs.Limits.{ceiling_end}
use Rattle.ceilings_masks.proofs.Turning.{Turning}
use Rattle.ceilings_masks.proofs.compare.Given as goal

abbrev pub invariant-loop-s : goal.invariant-loop-s
invariant-loop-s l =
    Turning l.n (ceiling_entries l.ws l.s) l.limits l.s.ceilings l.s.states l.k (ceiling_end l.n (ceiling_entries l.ws l.s) l.e) l.i l.over l.near × (length l.near ≡ length l.initial.near)

abbrev pub decreases-loop-s : goal.decreases-loop-s
decreases-loop-s l = l.s.entries - l.i
