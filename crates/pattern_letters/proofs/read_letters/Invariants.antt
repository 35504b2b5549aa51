use Prim.Native.Nat.{◌-◌, ◌≤◌}
use mathlib.Core.Path.{◌≡◌}
use lib.ListN.{length}
use Rattle.model.specs.Index.{gather}
use Rattle.model.specs.Words.{right}
use Rattle.model.specs.Rows.{program}
use Rattle.model.specs.Tables.{tables}
use Rattle.model.specs.Rules.{letters_read}
use Rattle.system_letters.specs.Letters.{Found}
use Rattle.pattern_letters.proofs.read_letters.Given as goal

abbrev pub invariant-loop-j : goal.invariant-loop-j
invariant-loop-j l = (l.from ≤ l.j) × (l.j ≤ l.to) × (length l.found ≡ length l.initial.found) × (length l.part ≡ length l.initial.part) × Found (program l.ws l.s) (tables l.ws l.s) l.c (gather l.from l.j (λ k. letters_read (program l.ws l.s) (tables l.ws l.s) l.q (right (tables l.ws l.s).mail k))) l.found

abbrev pub decreases-loop-j : goal.decreases-loop-j
decreases-loop-j l = l.to - l.j
