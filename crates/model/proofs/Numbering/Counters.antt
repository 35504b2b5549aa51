-- Counters are numbered without gaps or collisions (`counter_of` of specs/Counters.antt).
use Prim.Native.Nat.{ℕ, ◌+◌, ◌≤◌, ◌<◌}
use native.Mathlib.Decide.{dec_lt}
use native.Mathlib.Omega.{arith}
use mathlib.Core.Path.{◌≡◌, refl, sym, ◌∙◌, ap, subst}
use mathlib.Core.Bool.{true, false}
use mathlib.Core.List.{Memᴰ}
use mathlib.Core.Option.{some, none-ne-some}
use lib.Dec.{eqb}
use borrow.Author.Tests.{eqb-true}
use Rattle.model.specs.Rows.{Program, tag, num}
use Rattle.model.specs.Heads.{is_function}
use Rattle.model.specs.Letters.{head, head_count, row_shape, row_head_of, Letter}
use Rattle.model.specs.Tables.{Tables, State, state_at, state_index_of, has_state}
use Rattle.model.specs.Counters.{letter_keys, has_letter, counter_count, letter_index, Counted, state_of, letter_of, counter_of}
use Rattle.model.proofs.Logic.{test}
use Rattle.model.proofs.Numbering.States.{Ascending, listed_has, index_below, state_index_injective, index_state_at}
use Rattle.model.proofs.Numbering.Letters.{key_from, key_has, key_at, key_there, index_at, letter_index_injective, letter_index_behind, letter_index_below}
pub use Rattle.model.proofs.Rows.{tag_inside}

-- what number of counter belongs to what is counted, read both ways
module _ (p : Program) (t : Tables) where
  pub state_counter : (s : State) → has_state t s ≡ true → counter_of p t (state_of s) ≡ some (state_index_of t s)
  unfolding counter_of
  state_counter s h = rw (h, counter_of)

  pub letter_counter : (c : ℕ) (l : Letter) → has_letter p t c l ≡ true → counter_of p t (letter_of c l) ≡ some (letter_index p t c l)
  unfolding counter_of
  letter_counter c l h = rw (h, counter_of)

  pub state_numbered : (s : State) (x : ℕ) → counter_of p t (state_of s) ≡ some x → (has_state t s ≡ true) × (state_index_of t s ≡ x)
  unfolding counter_of
  state_numbered s x h =
      test (has_state t s)
      (λ e. (e, cc (state_counter s e)))
      (λ e. absurd (none-ne-some x (rw (e, counter_of) at h)))

  pub letter_numbered : (c : ℕ) (l : Letter) (x : ℕ) → counter_of p t (letter_of c l) ≡ some x → (has_letter p t c l ≡ true) × (letter_index p t c l ≡ x)
  unfolding counter_of
  letter_numbered c l x h =
      test (has_letter p t c l)
      (λ e. (e, cc (letter_counter c l e)))
      (λ e. absurd (none-ne-some x (rw (e, counter_of) at h)))

  -- states and letters have no counter in common
  apart : (s : State) (c : ℕ) (l : Letter) (x : ℕ) → counter_of p t (state_of s) ≡ some x → counter_of p t (letter_of c l) ≡ some x → ⊥
  apart s c l x h h' =
      let (a, b) = state_numbered s x h in
      let (v, w) = letter_numbered c l x h' in
      omega (arith, index_below t s a, letter_index_behind p t c l)

  -- no two things that are counted share a counter
  pub counter_injective : (k k' : Counted) (x : ℕ) → counter_of p t k ≡ some x → counter_of p t k' ≡ some x → k ≡ k'
  counter_injective (state_of s) (state_of s') x h h' =
      let (a, b) = state_numbered s x h in
      let (a', b') = state_numbered s' x h' in
      ap state_of (state_index_injective t s s' a a' (b ∙ sym b'))
  counter_injective (state_of s) (letter_of c l) x h h' = absurd (apart s c l x h h')
  counter_injective (letter_of c l) (state_of s) x h h' = absurd (apart s c l x h' h)
  counter_injective (letter_of c l) (letter_of c' l') x h h' =
      let (v, w) = letter_numbered c l x h in
      let (v', w') = letter_numbered c' l' x h' in
      let e = letter_index_injective p t c l c' l' v v' (w ∙ sym w') in
      cc

  -- every counter is one of those that are counted
  pub counter_below : (k : Counted) (x : ℕ) → counter_of p t k ≡ some x → x < counter_count p t
  unfolding counter_count
  counter_below (state_of s) x h =
      let (a, b) = state_numbered s x h in
      omega (arith, index_below t s a)
  counter_below (letter_of c l) x h =
      let (v, w) = letter_numbered c l x h in
      omega (arith, letter_index_below p t c l v)

-- every value of the tables has one of the heads, where built ones have a constructor
-- a value that is not built has no constructor's head
pub plain_head : (p : Program) (v : ℕ) → eqb (tag p v) 2 ≡ false → p.constructors ≤ row_head_of p v
unfolding row_head_of row_shape head
plain_head p v e = test (is_function p v) (λ f. rw (e, f, row_shape) (omega arith)) (λ f. rw (e, f, row_shape) (omega arith))

pub row_head_low : (p : Program) → ((v : ℕ) → tag p v ≡ 2 → num p (v + 1) < p.constructors) → (v : ℕ) → row_head_of p v < head_count p
unfolding row_head_of row_shape head head_count
row_head_low p built v =
    test (eqb (tag p v) 2)
    (λ e. rw (e, row_shape) (omega (arith, built v (eqb-true (tag p v) 2 e))))
    (λ e. test (is_function p v)
    (λ f. rw (e, f, row_shape) (omega arith))
    (λ f. rw (e, f, row_shape) (omega arith)))

-- each counter belongs to something that is counted: the state with that number, where the states ascend, or a letter
module _ (p : Program) (t : Tables) where
  pub letter_reached : (x : ℕ) → t.states.size ≤ x → x < counter_count p t → (c : ℕ) × ((l : Letter) × (counter_of p t (letter_of c l) ≡ some x))
  letter_reached x lo hi =
      let m = key_there p t x lo hi in
      let a = key_from p t (key_at p t x) m in
      let has = key_has p t a.class a.letter (subst (λ k. Memᴰ k (letter_keys p t)) (sym a.same) m) in
      (a.class, (a.letter, letter_counter p t a.class a.letter has ∙ ap some (index_at p t x a.class a.letter lo hi a.same)))

  pub counter_reached : Ascending t → (x : ℕ) → x < counter_count p t → (k : Counted) × (counter_of p t k ≡ some x)
  counter_reached ascending x h = elim (dec_lt x t.states.size) [
    | yes a ↦ (
      state_of (state_at t x),
      state_counter p t (state_at t x) (listed_has t (state_at t x) (record { at = x; below = a; here = refl })) ∙
          ap some (index_state_at t x ascending a),
    )
    | no a ↦ let (c, (l, e)) = letter_reached x (omega arith) h in (letter_of c l, e)
  ]
