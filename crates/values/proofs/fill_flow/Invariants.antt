use mathlib.Core.Path.{◌≡◌}
use lib.ListN.{length}
use Rattle.lists.specs.Lists.{listed}
use Rattle.values.proofs.Gathered.{Gathered}
use Rattle.values.proofs.fill_flow.Given as goal

abbrev pub invariant-loop-i : goal.invariant-loop-i
invariant-loop-i l = Gathered (listed l.ws l.l) (λ n. n) l.w l.sets l.i × (length l.sets ≡ length l.initial.sets)
