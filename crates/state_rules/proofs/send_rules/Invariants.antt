use Prim.Native.Nat.{ℕ, ◌-◌, ◌≤◌, ◌<◌}
use mathlib.Core.Path.{◌≡◌}
use Rattle.std.specs.Prelude.{option_copied}
use mathlib.Core.Bool.{Bool}
use lib.ListN.{length, get_or}
use Rattle.model.specs.Index.{gather}
use Rattle.model.specs.Words.{right}
use Rattle.model.specs.Rows.{program, send}
use Rattle.model.specs.Tables.{tables}
use Rattle.rules.specs.Added.{Added}
use Rattle.rules.specs.Within.{only_passing, AskedOf}
use Rattle.state_rules.specs.Heads.{send_turn}
use Rattle.state_rules.proofs.send_rules.Given as goal

abbrev pub invariant-loop-j : goal.invariant-loop-j
invariant-loop-j l =
    ((f : ℕ → Bool) → AskedOf (program l.ws l.s) (tables l.ws l.s) (option_copied l.within) f →
    Added send l.initial.tos l.initial.others 0 l.tos l.others l.n (λ e. gather l.from l.j (λ x. only_passing f (send_turn (program l.ws l.s) (tables l.ws l.s) l.message l.next e x)))) ×
    (l.from ≤ l.j) × (l.j ≤ l.to) × (l.j < l.to → l.n ≤ get_or l.letter_at (right (tables l.ws l.s).flow l.j) 0) × (length l.part ≡ 17) × (length l.found ≡ 17) ×
    (length l.tos ≡ length l.initial.tos) × (length l.others ≡ length l.initial.others)

abbrev pub decreases-loop-j : goal.decreases-loop-j
decreases-loop-j l = l.to - l.j
