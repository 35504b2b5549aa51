use mathlib.Core.Path.{◌≡◌}
use Rattle.model.specs.Rows.{program}
use Rattle.model.specs.Tables.{tables}
use Rattle.mailed.specs.Mailed.{mails_from}
use Rattle.mailed.proofs.mailed_check.Given as goal

abbrev pub invariant-loop-i : goal.invariant-loop-i
invariant-loop-i l = mails_from (program l.ws l.s) (tables l.ws l.s) 0 ≡ mails_from (program l.ws l.s) (tables l.ws l.s) l.i
