use mathlib.Core.Path.{◌≡◌}
use lib.ListN.{length}
use Rattle.system_letters.proofs.Tables.{Headed}
use Rattle.system_letters.proofs.fill_names.Given as goal

abbrev pub invariant-loop-i : goal.invariant-loop-i
invariant-loop-i l = Headed l.ws l.s l.i l.names × (length l.names ≡ length l.initial.names)
