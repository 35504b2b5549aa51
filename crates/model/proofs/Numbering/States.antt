-- Each state that is there has a number of its own (`state_index_of` of specs/Tables.antt).
use Prim.Native.Nat.{ℕ, ◌<◌}
use native.Mathlib.Omega.{arith}
use mathlib.Core.Path.{◌≡◌, refl, sym, ◌∙◌, ap, subst}
use mathlib.Core.Bool.{true}
use mathlib.Core.List.{[], ◌∷◌}
use borrow.Author.Tests.{ltb-true}
use Rattle.model.specs.Tables.{Tables, State, same_state, state_at, state_index_of, has_state}
use Rattle.model.specs.Wanted.{ListedState}
use Rattle.model.specs.Demands.{Below, three_columns}
use Rattle.model.proofs.Logic.{test}
use Rattle.model.proofs.Keys.{below_irrefl}
use Rattle.model.proofs.Exact.Members.{same_state_iff, has_state_iff}
use Rattle.model.proofs.Index.{First, first_is, first_unique}

-- each state is above those before
abbrev pub Ascending : Tables → Type 0
Ascending t = (i j : ℕ) → i < j → j < t.states.size → Below (three_columns t i) (three_columns t j)

module _ (t : Tables) where
  -- the number of a state is the first that has it
  index_first : (s : State) → First 0 t.states.size (λ i. same_state (state_at t i) s) (state_index_of t s)
  unfolding state_index_of
  index_first s = first_is 0 t.states.size (λ i. same_state (state_at t i) s) (omega arith)

  pub index_below : (s : State) → has_state t s ≡ true → state_index_of t s < t.states.size
  unfolding has_state
  index_below s h = ltb-true (state_index_of t s) t.states.size h

  pub state_at_index : (s : State) → has_state t s ≡ true → state_at t (state_index_of t s) ≡ s
  state_at_index s h = (same_state_iff (state_at t (state_index_of t s)) s).0 ((index_first s).passes (index_below s h))

  -- two states that are there differ in their numbers
  pub state_index_injective : (s s' : State) → has_state t s ≡ true → has_state t s' ≡ true → state_index_of t s ≡ state_index_of t s' → s ≡ s'
  state_index_injective s s' h h' e = sym (state_at_index s h) ∙ (ap (state_at t) e ∙ state_at_index s' h')

  pub has_listed : (s : State) → has_state t s ≡ true → ListedState t s
  has_listed s = (has_state_iff t s).0

  pub listed_has : (s : State) → ListedState t s → has_state t s ≡ true
  listed_has s = (has_state_iff t s).1

  -- in a list that ascends each entry is the first of its kind
  pub index_state_at : (i : ℕ) → Ascending t → i < t.states.size → state_index_of t (state_at t i) ≡ i
  unfolding state_index_of state_at
  index_state_at i ascending h = first_unique 0 t.states.size i (λ j. same_state (state_at t j) (state_at t i)) (omega arith) (record {
    from = omega arith;
    upto = omega arith;
    passes = λ k. (same_state_iff (state_at t i) (state_at t i)).1 refl;
    before = λ j a b. test (same_state (state_at t j) (state_at t i))
        (λ e. absurd (below_irrefl (three_columns t i)
        (subst (λ s. Below (s.class ∷ s.location ∷ s.return ∷ []) (three_columns t i)) ((same_state_iff (state_at t j) (state_at t i)).0 e) (ascending j i b h))))
        (λ e. e);
  })
