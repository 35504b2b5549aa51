use Prim.Native.Nat.{◌+◌, ◌-◌, ◌≤◌}
use mathlib.Core.Path.{◌≡◌}
use lib.ListN.{length}
use Rattle.model.specs.Rows.{program}
use Rattle.model.specs.Tables.{tables}
use Rattle.system_letters.specs.Letters.{LetterSets}
use Rattle.rules.specs.Derived.{Reads}
use Rattle.plain_rules.proofs.Branches.{BranchAt}
use Rattle.kept_letters.proofs.keep_receive.Given as goal

abbrev pub invariant-loop-b : goal.invariant-loop-b
invariant-loop-b l = BranchAt (program l.ws l.s) (l.r + 1) l.m l.b l.q × (l.b ≤ l.m) × LetterSets (program l.ws l.s) (tables l.ws l.s) l.letters × Reads (program l.ws l.s) (tables l.ws l.s) l.letters × (length l.letters ≡ length l.initial.letters)

abbrev pub decreases-loop-b : goal.decreases-loop-b
decreases-loop-b l = l.m - l.b
