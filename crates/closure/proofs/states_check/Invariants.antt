use mathlib.Core.Path.{◌≡◌}
use lib.ListN.{length}
use Rattle.model.specs.Rows.{program}
use Rattle.model.specs.Tables.{tables}
use Rattle.codes.specs.Codes.{Codes}
use Rattle.closure.proofs.Opens.{Opens}
use Rattle.closure.proofs.states_check.Given as goal

abbrev pub invariant-loop-i : goal.invariant-loop-i
invariant-loop-i l = Opens (program l.ws l.s) (tables l.ws l.s) l.branches l.i × (((length l.at ≡ length l.initial.at) × (length l.branches ≡ length l.initial.branches)) × (Codes (program l.ws l.s) (tables l.ws l.s) l.codes × (length l.codes ≡ length l.initial.codes)))
