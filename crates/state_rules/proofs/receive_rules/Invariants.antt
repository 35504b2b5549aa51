use Prim.Native.Nat.{ℕ, ◌+◌, ◌*◌, ◌-◌, ◌≤◌}
use mathlib.Core.Path.{◌≡◌}
use Rattle.std.specs.Prelude.{option_copied}
use mathlib.Core.Bool.{Bool}
use lib.ListN.{length}
use Rattle.model.specs.Index.{gather}
use Rattle.model.specs.Rows.{program, receive}
use Rattle.model.specs.Tables.{tables, state_at}
use Rattle.model.specs.Counters.{letter_count_of}
use Rattle.rules.specs.Added.{Added}
use Rattle.rules.specs.Within.{only_passing, AskedOf}
use Rattle.plain_rules.proofs.Branches.{BranchAt}
use Rattle.state_rules.specs.Heads.{receive_turn}
use Rattle.state_rules.proofs.receive_rules.Given as goal

abbrev pub invariant-loop-b : goal.invariant-loop-b
invariant-loop-b l =
    ((f : ℕ → Bool) → AskedOf (program l.ws l.s) (tables l.ws l.s) (option_copied l.within) f →
    Added receive l.initial.tos l.initial.others 0 l.tos l.others l.n (λ e. gather 0 l.b (λ x. only_passing f (receive_turn (program l.ws l.s) (tables l.ws l.s) (state_at (tables l.ws l.s) l.i) (l.r + 1) e x)))) ×
    BranchAt (program l.ws l.s) (l.r + 1) l.m l.b l.q × (l.b ≤ l.m) × (l.n ≤ l.b * letter_count_of (program l.ws l.s) (tables l.ws l.s)) × (length l.part ≡ 17) × (length l.found ≡ 17) ×
    (length l.tos ≡ length l.initial.tos) × (length l.others ≡ length l.initial.others)

abbrev pub decreases-loop-b : goal.decreases-loop-b
decreases-loop-b l = l.m - l.b
