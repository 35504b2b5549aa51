use Prim.Native.Nat.{◌-◌, ◌≤◌}
use mathlib.Core.Path.{◌≡◌}
use lib.ListN.{length}
use Rattle.model.specs.Rows.{program}
use Rattle.model.specs.Tables.{tables}
use Rattle.system_letters.specs.Letters.{LetterSets}
use Rattle.rules.specs.Derived.{Reads}
use Rattle.kept_letters.proofs.fill_reads.Given as goal

abbrev pub invariant-loop-i : goal.invariant-loop-i
invariant-loop-i l = LetterSets (program l.ws l.s) (tables l.ws l.s) l.letters × Reads (program l.ws l.s) (tables l.ws l.s) l.letters × (length l.letters ≡ length l.initial.letters) × (l.i ≤ l.i-end)

abbrev pub decreases-loop-i : goal.decreases-loop-i
decreases-loop-i l = l.i-end - l.i
