-- The tests on the lists of the tables, as facts on their members.
use Prim.Native.Nat.{ℕ, ◌<◌}
use mathlib.Core.Path.{◌≡◌, refl, sym, ap, subst}
use mathlib.Core.Bool.{Bool, true}
use mathlib.Core.Logic.Iff
use mathlib.Core.Logic.{◌↔◌}
use lib.Dec.{eqb}
use Rattle.model.specs.Words.{Columns, left, right}
use Rattle.model.specs.Tables.{Tables, has, some_of, State, same_state, state_at, state_index_of, has_state}
use Rattle.model.specs.Wanted.{Member, ListedState}
use Rattle.model.proofs.Exact.Tests.{eqb_iff, and_iff, any_iff, first_iff}

module _ (c : Columns) (a : ℕ) where
  member : (i : ℕ) → i < c.size → left c i ≡ a → Member c a (right c i)
  member i b e = record { at = i; below = b; first = e; second = refl }

  -- of some entry that begins with a, and of some member
  pub member_iff : {A : ℕ → Type 0} → ((i : ℕ) × (i < c.size) × ((left c i ≡ a) × A (right c i))) ↔ ((b : ℕ) × Member c a b × A b)
  member_iff {A} = (
    λ h. let (i, b, x) = h in (right c i, member i b x.0, x.1),
    λ h. let (b, m, x) = h in (m.at, m.below, (m.first, subst A (sym m.second) x)),
  )

  pub some_of_iff : (f : ℕ → Bool) {A : ℕ → Type 0} → ((b : ℕ) → (f b ≡ true) ↔ A b) → (some_of c a f ≡ true) ↔ ((b : ℕ) × Member c a b × A b)
  unfolding some_of
  some_of_iff f e =
      Iff.trans (any_iff c.size _ (λ i. and_iff (eqb (left c i) a) (f (right c i)) (eqb_iff (left c i) a) (e (right c i)))) member_iff

  -- an entry with both numbers
  entry_iff : (b : ℕ) → ((i : ℕ) × (i < c.size) × ((left c i ≡ a) × (right c i ≡ b))) ↔ Member c a b
  entry_iff b = (
    λ h. record { at = h.0; below = h.1; first = h.2.0; second = h.2.1 },
    λ m. (m.at, m.below, (m.first, m.second)),
  )

  pub has_iff : (b : ℕ) → (has c a b ≡ true) ↔ Member c a b
  unfolding has
  has_iff b =
      Iff.trans (any_iff c.size _ (λ i. and_iff (eqb (left c i) a) (eqb (right c i) b) (eqb_iff (left c i) a) (eqb_iff (right c i) b))) (entry_iff b)

-- the same state, and the state itself
pub same_state_iff : (a b : State) → (same_state a b ≡ true) ↔ (a ≡ b)
unfolding same_state
same_state_iff a b =
    Iff.trans
    (and_iff (eqb a.class b.class) _ (eqb_iff a.class b.class)
    (and_iff (eqb a.location b.location) (eqb a.return b.return) (eqb_iff a.location b.location) (eqb_iff a.return b.return))) (
      λ h i. record { class = h.0 i; location = h.1.0 i; return = h.1.1 i },
      λ h. (ap (λ s. s.class) h, (ap (λ s. s.location) h, ap (λ s. s.return) h)),
    )

-- of each state of the list
pub states_iff : (t : Tables) {A : State → Type 0} → ((i : ℕ) → i < t.states.size → A (state_at t i)) ↔ ((s : State) → ListedState t s → A s)
states_iff t {A} = (
  λ h s m. subst A m.here (h m.at m.below),
  λ h i b. h (state_at t i) (record { at = i; below = b; here = refl }),
)

pub has_state_iff : (t : Tables) (s : State) → (has_state t s ≡ true) ↔ ListedState t s
unfolding has_state state_index_of
has_state_iff t s =
    Iff.trans (first_iff t.states.size _ (λ i. same_state_iff (state_at t i) s)) (
      λ h. record { at = h.0; below = h.1; here = h.2 },
      λ m. (m.at, m.below, m.here),
    )
