use Prim.Native.Nat.{◌-◌}
use mathlib.Core.List.{[], ◌∷◌}
use Rattle.lists.specs.Lists.{listed, thirds, key_at}
use Rattle.model.specs.Keys.{below}
use Rattle.lists.proofs.Halving.{Between}
use Rattle.lists.proofs.place.Given as goal

abbrev pub invariant-loop-low : goal.invariant-loop-low
invariant-loop-low l = Between 0 (listed l.ws l.l).size (λ i. below (key_at (listed l.ws l.l) (thirds l.ws l.l) i) (l.a ∷ l.b ∷ l.d ∷ [])) l.low l.high

abbrev pub decreases-loop-low : goal.decreases-loop-low
decreases-loop-low l = l.high - l.low
