use Prim.Native.Nat.{◌-◌, ◌≤◌}
use mathlib.Core.Path.{◌≡◌}
use lib.ListN.{length}
use Rattle.model.specs.Index.{gather}
use Rattle.model.specs.Words.{right}
use Rattle.model.specs.Rows.{program}
use Rattle.model.specs.Tables.{tables}
use Rattle.model.specs.Counters.{letters_allowed}
use Rattle.system_letters.specs.Letters.{Found}
use Rattle.sent_letters.proofs.sent_letters.Given as goal

abbrev pub invariant-loop-i : goal.invariant-loop-i
invariant-loop-i l = (l.from ≤ l.i) × (l.i ≤ l.to) × (length l.found ≡ length l.initial.found) × Found (program l.ws l.s) (tables l.ws l.s) l.d (gather l.from l.i (λ k. letters_allowed (program l.ws l.s) (tables l.ws l.s) (right (tables l.ws l.s).flow k))) l.found

abbrev pub decreases-loop-i : goal.decreases-loop-i
decreases-loop-i l = l.to - l.i
