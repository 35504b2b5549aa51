-- What one layer's tables say is what the stages ask, and room for what they make.
use Prim.Native.Nat.{ℕ, ◌*◌, ◌≤◌, ◌<◌}
use native.Mathlib.Omega.{arith}
use mathlib.Core.Path.{◌≡◌, ap, ◌∙◌}
use mathlib.Core.List.{List}
use mathlib.Core.Option.{none}
use lib.ListN.{length}
use lib.Dec.{eqb}
use Rattle.model.specs.declared.Sizes.{Sizes}
use Rattle.model.specs.Words.{columns}
use Rattle.model.specs.Rows.{Program, size, tag, num, program}
use Rattle.model.specs.Limits.{max_counters}
use Rattle.model.specs.Tables.{Tables, tables, has, state, state_index_of}
use Rattle.model.specs.Index.{all, implies}
use Rattle.model.specs.Heads.{start}
use Rattle.model.specs.Closed.{start_state, is_opening_closed, open_check}
use Rattle.model.specs.Counters.{letter_count_of, counter_count}
use Rattle.model.proofs.Exact.Checks.{then_none, unless_none}
use Rattle.model.proofs.Logic.{and_right}
use Rattle.model.proofs.Numbering.States.{index_below}
use Rattle.ceilings_form.specs.Parts as ceilings
use Rattle.lists.specs.Ready.{Ready}
use Rattle.rooms.specs.Cleared.{Cleared}
use Rattle.rules.specs.Derived.{RuleRoom}
use Rattle.ceilings.specs.Table.{BoundsRoom}

-- refusal 8 found nothing, so the start has a counter
pub start_counted : (s : Sizes) (p : Program) (t : Tables) → open_check s p t ≡ none → state_index_of t (start_state p) < counter_count p t
unfolding open_check is_opening_closed counter_count
start_counted s p t h =
    let listed = and_right (all 0 (size p) (λ r. implies (eqb (tag p r) 11) (has t.flow (num p r) r))) _ ((unless_none _ _).0 ((then_none _ _).0 h).0) in
    let below = index_below t (start_state p) listed in
    omega arith

-- the counter of the start, by its row
pub start_told : (ws : List ℕ) (s : Sizes) (r x : ℕ) → r ≡ start (program ws s) → x ≡ state_index_of (tables ws s) (state s.rows r s.rows) → x ≡ state_index_of (tables ws s) (start_state (program ws s))
unfolding start_state program columns
start_told ws s r x e h = h ∙ ap (λ q. state_index_of (tables ws s) (state s.rows q s.rows)) e

pub ceilings_of_ready : (ws : List ℕ) (s : Sizes) → Ready ws s → ceilings.Whole ws s
ceilings_of_ready ws s h = record { limits = h.limits; held = h.held }

-- cleared lists of m words for the rules of a message of n counters, of which the letters are some
pub rule_room : (ws : List ℕ) (s : Sizes) (n m : ℕ) (tos others : List ℕ) → n ≡ counter_count (program ws s) (tables ws s) → s.rows < m → 16 * n ≤ m → max_counters ≤ m → Cleared m tos → Cleared m others → RuleRoom ws s tos others
unfolding counter_count
rule_room ws s n m tos others e h k l t o =
    let a = t.room in
    let b = o.room in
    record { values = omega arith; letters = omega arith; counters = omega arith; alike = omega arith }

-- limits of n counters, and where the ceilings begin, or weights and lines
pub bounds_room : (n count k m : ℕ) (limits starts : List ℕ) → n * count ≤ k → count ≤ m → Cleared k limits → Cleared m starts → BoundsRoom n count limits starts
bounds_room n count k m limits starts h b l c =
    record {
      cells = let q = l.room in omega arith;
      blank = λ z h. l.zero z;
      firsts = let q = c.room in omega arith;
    }

-- the counters of a message that refusal 9 does not refuse
pub few_counters : (ws : List ℕ) (s : Sizes) (n : ℕ) → n ≡ counter_count (program ws s) (tables ws s) → counter_count (program ws s) (tables ws s) ≤ max_counters → n ≤ max_counters
few_counters ws s n e h = omega (arith, e)
