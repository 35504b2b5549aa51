-- The loops' invariants. Ceilings: the first that leaks is the first from k on. States: ceiling k leaks exactly where a state from the entry e on leads
-- out. Rules: the same by the rules of state i from j on, and the states behind it. Candidates: some ceiling covers exactly where a candidate from a on
-- does. Named counters: those before b pass.
use Prim.Native.Nat.{ℕ, ◌+◌, ◌-◌, ◌≤◌, ◌<◌}
use mathlib.Core.Path.{◌≡◌}
use mathlib.Core.Bool.{true, ◌||◌}
use lib.ListN.{length}
use Rattle.model.specs.Index.{any}
use Rattle.model.specs.Rows.{program}
use Rattle.model.specs.Tables.{tables}
use Rattle.model.specs.Ceilings.{ceiling_entries}
use Rattle.kept_rules.specs.Kept.{KeptRules}
use Rattle.ceilings_leaks.specs.Leaks.{RulesSeen}
use Rattle.ceilings_form.specs.Limits.{ceiling_end}
use Rattle.ceilings_covers.specs.Covers.{named, passes}
use Rattle.ceilings_leaks.proofs.Leaking.{leaks, by_state, by_step, step_at, Walk, LeftOf}
use Rattle.ceilings_leaks.proofs.leak_check.Given as goal

abbrev pub invariant-loop-b : goal.invariant-loop-b
invariant-loop-b l =
    (l.b ≤ 3) × ((x : ℕ) → x < l.b → named l.step x < l.n → passes l.limits l.s.ceilings l.k l.k2 l.step (named l.step x) ≡ true)

abbrev pub decreases-loop-b : goal.decreases-loop-b
decreases-loop-b l = 3 - l.b

abbrev pub invariant-candidates : goal.invariant-candidates
invariant-candidates l =
    (l.j ≡ l.initial.j) × LeftOf l.ws l.s l.n l.limits l.k l.step l.mask l.a

abbrev pub decreases-candidates : goal.decreases-candidates
decreases-candidates l = 256 - l.a

abbrev pub invariant-rules : goal.invariant-rules
invariant-rules l =
    (leaks l.ws l.s l.n l.limits l.k ≡ (any l.j l.end (λ x. by_step l.ws l.s l.n l.limits l.k (step_at l.ws l.s l.n l.limits l.i l.kind l.tos l.others x)) || any (l.i + 1) l.s.states (by_state l.ws l.s l.n l.limits l.k))) × (l.j ≤ l.end) × (l.initial.j ≤ l.j) × RulesSeen (program l.ws l.s) (tables l.ws l.s) l.limits l.s.ceilings l.n l.k l.i l.tos l.others l.initial.j l.end

abbrev pub decreases-rules : goal.decreases-rules
decreases-rules l = l.end - l.j

abbrev pub invariant-states : goal.invariant-states
invariant-states l =
    (l.k ≡ l.initial.k) × Walk l.ws l.s l.n l.limits l.k (ceiling_end l.n (ceiling_entries l.ws l.s) l.first) l.e × (length l.tos ≡ length l.initial.tos) × (length l.others ≡ length l.initial.others) × KeptRules (program l.ws l.s) (tables l.ws l.s) l.s.states l.kept l.first_at l.tos l.others

abbrev pub decreases-states : goal.decreases-states
decreases-states l = l.s.entries - l.e

abbrev pub invariant-ceilings : goal.invariant-ceilings
invariant-ceilings l =
    (Rattle.model.specs.Index.first 0 l.s.ceilings (leaks l.ws l.s l.n l.limits) ≡ Rattle.model.specs.Index.first l.k l.s.ceilings (leaks l.ws l.s l.n l.limits)) × (l.k ≤ l.s.ceilings) × (length l.tos ≡ length l.initial.tos) × (length l.others ≡ length l.initial.others) × (length l.near ≡ length l.initial.near) × KeptRules (program l.ws l.s) (tables l.ws l.s) l.s.states l.kept l.first_at l.tos l.others × (length l.within ≡ 17)

abbrev pub decreases-ceilings : goal.decreases-ceilings
decreases-ceilings l = l.s.ceilings - l.k
