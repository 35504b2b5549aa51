use mathlib.Core.Path.{◌≡◌}
use lib.ListN.{length}
use Rattle.lists.specs.Lists.{listed}
use Rattle.values.proofs.Starts.{Begun}
use Rattle.values.proofs.fill_starts.Given as goal

abbrev pub invariant-loop-n : goal.invariant-loop-n
invariant-loop-n l = Begun (listed l.ws l.l) l.starts l.i l.n × (length l.starts ≡ length l.initial.starts)
