use mathlib.Core.Path.{◌≡◌}
use lib.ListN.{length}
use Rattle.model.specs.Rows.{program}
use Rattle.values.specs.Values.{mail_set_of}
use Rattle.lists.specs.Lists.{listed}
use Rattle.values.proofs.Gathered.{Gathered}
use Rattle.values.proofs.fill_mail.Given as goal

abbrev pub invariant-loop-i : goal.invariant-loop-i
invariant-loop-i l = Gathered (listed l.ws l.l) (mail_set_of (program l.ws l.s)) l.w l.sets l.i × (length l.sets ≡ length l.initial.sets)
