use Prim.Native.Nat.{◌≤◌}
use mathlib.Core.Path.{◌≡◌}
use Rattle.model.specs.Index.{first}
use Rattle.lists.specs.Lists.{listed, reaches}
use Rattle.lists.proofs.reach.Given as goal

abbrev pub invariant-loop-k : goal.invariant-loop-k
invariant-loop-k l = (first l.i l.l.size (reaches (listed l.ws l.l) l.a) ≡ first l.k l.l.size (reaches (listed l.ws l.l) l.a)) × (l.k ≤ l.l.size)
