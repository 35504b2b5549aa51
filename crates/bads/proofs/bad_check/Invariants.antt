use mathlib.Core.Path.{◌≡◌}
use Rattle.bads.proofs.BadRows.{first_bad, bad_from}
use Rattle.bads.proofs.bad_check.Given as goal

abbrev pub invariant-loop-r : goal.invariant-loop-r
invariant-loop-r l = first_bad l.ws l.s ≡ bad_from l.ws l.s l.expected l.r
