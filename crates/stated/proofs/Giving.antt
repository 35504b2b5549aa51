-- Giving back, by the range of the states that wait at the call, and the callees of a call.
use Prim.Native.Nat.{ℕ, ◌+◌, ◌≤◌, ◌<◌}
use native.Mathlib.Omega.{arith}
use native.Mathlib.Decide.{dec_lt}
use mathlib.Core.Path.{◌≡◌, refl, sym, ◌∙◌, ap}
use mathlib.Core.Bool.{Bool, true, false, not, ◌&&◌}
use mathlib.Core.List.{List, [], ◌∷◌}
use mathlib.Core.Logic.{⊎_elim}
use lib.Dec.{eqb, ltb}
use lib.ListN.{get_or}
use borrow.Author.Tests.{eqb-true, eq-eqb, not-true, not-false}
use Rattle.model.specs.Limits.{max_rows}
use Rattle.model.specs.declared.Sizes.{Sizes}
use Rattle.model.specs.Index.{implies, all}
use Rattle.model.specs.Words.{left, right, columns}
use Rattle.model.specs.Rows.{Program, program, size, tag, num, kind, call, give}
use Rattle.model.specs.Scopes.{rest}
use Rattle.model.specs.Heads.{call_at, is_class_of, takes, body}
use Rattle.model.specs.Tables.{Tables, tables, entries, has, each, State, state, onward, state_at, state_index_of, has_state}
use Rattle.model.specs.Closed.{entered, waits_for, resumed, is_give_closed}
use Rattle.model.proofs.Logic.{and_left, and_right, and_intro, implies_elim, implies_intro, both}
use Rattle.model.proofs.Index.{all_intro, all_elim, all_miss, all_end}
use Rattle.model.proofs.Parse.Locations.{head_range}
use Rattle.model.proofs.Parse.Lengths.{row_within}
use Rattle.lists.specs.Lists.{Ascending, head_from, head_to}
use Rattle.lists.specs.Ready.{Ready}
use Rattle.lists.proofs.Facts.{columns_whole, states_form}
use Rattle.lists.proofs.Rising.{heads_before, heads_within, heads_behind, place_upto}
use Rattle.positions.proofs.Standing.{rest_call}
use Rattle.values.proofs.Names.{head_name}
use Rattle.branches.proofs.Walk.{state_there}
use Rattle.asks.proofs.Rows.{head_here, row_below}
use Rattle.stated.specs.Stated.{callees_of, goes_on}

-- the numbers of a state, as they are read
pub class_at : (t : Tables) (i c : ℕ) → c ≡ left t.states i → c ≡ (state_at t i).class
unfolding state_at
class_at t i c e = e

pub location_at : (t : Tables) (i r : ℕ) → r ≡ right t.states i → r ≡ (state_at t i).location
unfolding state_at
location_at t i r e = e

module _ {ws : List ℕ} {s : Sizes} (h : Ready ws s) where
  -- what they may be
  pub class_some : (i c : ℕ) → i < s.states → c ≡ left (tables ws s).states i → is_class_of (program ws s) c ≡ true
  unfolding tables entries columns
  class_some i c less e = rw e ((states_form h).in_range i less).class

  pub head_some : (i r : ℕ) → i < s.states → r ≡ right (tables ws s).states i → (1 ≤ tag (program ws s) r) × (tag (program ws s) r ≤ 9)
  unfolding tables entries columns
  head_some i r less e = rw e (head_range _ ((states_form h).in_range i less).head)

  pub return_some : (i b : ℕ) → i < s.states → b ≡ get_or (tables ws s).returns i 0 → (b ≡ s.rows → ⊥) → tag (program ws s) b ≡ 4
  unfolding program tables entries columns
  return_some i b less e ne = ⊎_elim (λ z. ap (tag (program ws s)) e ∙ z) (λ z. absurd (ne (e ∙ z))) ((states_form h).in_range i less).return

  pub return_low : (i b : ℕ) → i < s.states → b ≡ get_or (tables ws s).returns i 0 → (b ≡ s.rows → ⊥) → b < max_rows
  return_low i b less e ne = let z = return_some i b less e ne in (row_below h b (omega arith)).1

  pub give_here : (r n : ℕ) → tag (program ws s) r ≡ 1 → n ≡ num (program ws s) r → n < s.names
  unfolding kind program
  give_here r n t e = let z = head_name give (head_here h r (omega arith) (omega arith)) (rw t) refl in omega arith

  -- the name and the rest of the call that is returned to
  pub call_name : (r n : ℕ) → tag (program ws s) r ≡ 4 → n ≡ num (program ws s) r → n < s.names
  unfolding kind program
  call_name r n t e = let z = head_name call (head_here h r (omega arith) (omega arith)) (rw t) refl in omega arith

  pub rest_here : (r : ℕ) → tag (program ws s) r ≡ 4 → (n : ℕ) → n ≡ num (program ws s) (r + 2) → (r + 3 + n ≡ rest (program ws s) r) × (r + 3 + n < max_rows)
  unfolding kind program columns
  rest_here r t n e =
      let (a, b) = rest_call (head_here h r (omega arith) (omega arith)) (rw t) in
      let m = h.limits.rows.1 in
      (omega arith, omega arith)

  -- the states that wait stand in the list
  pub heads_upto : (c r to : ℕ) → to ≡ head_to (tables ws s) c r → to ≤ s.states
  unfolding head_to tables entries columns
  heads_upto c r to e = let z = place_upto (tables ws s).states (tables ws s).returns (c ∷ (r + 1) ∷ 0 ∷ []) in omega arith

  -- no state waits where nothing is pushed
  pub gives_nothing : (i b n : ℕ) → b ≡ get_or (tables ws s).returns i 0 → b ≡ s.rows → true ≡ is_give_closed (program ws s) (tables ws s) (state_at (tables ws s) i) n
  unfolding is_give_closed waits_for state_at program tables entries columns
  gives_nothing i b n e z =
      sym (all_intro 0 s.states _ (λ j x y. implies_intro (eqb (left (tables ws s).states j) (left (tables ws s).states i) && eqb (right (tables ws s).states j) (get_or (tables ws s).returns i 0)) _
      (λ w. let at = eqb-true (right (tables ws s).states j) (get_or (tables ws s).returns i 0) (and_right (eqb (left (tables ws s).states j) (left (tables ws s).states i)) _ w) in
      let here = row_within (columns_whole h) (right (tables ws s).states j) (head_some j _ y refl).0 in
      absurd (omega arith))))

-- what is asked of state j, which waits at the call at row b, where the name n is given back
abbrev pub wanted : Program → Tables → ℕ → ℕ → ℕ → Bool
wanted p t b n j = each t.flow n (has t.flow (num p b)) && goes_on t (rest p b) j

module _ (p : Program) (t : Tables) (rising : Ascending t.states t.returns) (i n : ℕ) where
  abbrev caller : ℕ → Bool
  caller j = eqb (left t.states j) (left t.states i) && eqb (right t.states j) (get_or t.returns i 0)

  -- a state that waits goes on at the rest of the call that it is at
  resumes : (j : ℕ) → right t.states j ≡ get_or t.returns i 0
      → (each t.flow n (has t.flow (call_at p (state_at t i).return).name) && has_state t (resumed p (state_at t j))) ≡ wanted p t (get_or t.returns i 0) n j
  unfolding resumed state_at call_at goes_on
  resumes j e = ap (λ r. each t.flow n (has t.flow (num p (get_or t.returns i 0))) && has_state t (state (left t.states j) (rest p r) (get_or t.returns j 0))) e

  waiting : is_give_closed p t (state_at t i) n ≡ all (head_from t (left t.states i) (get_or t.returns i 0)) (head_to t (left t.states i) (get_or t.returns i 0)) (wanted p t (get_or t.returns i 0) n)
  unfolding is_give_closed waits_for state_at head_from head_to
  waiting =
      let c : ℕ = left t.states i in
      let b : ℕ = get_or t.returns i 0 in
      both (is_give_closed p t (state_at t i) n) (all (head_from t c b) (head_to t c b) (wanted p t b n))
      (λ h. all_intro (head_from t c b) (head_to t c b) (wanted p t b n) (λ j lo hi.
      let (x, y) = heads_within t.states t.returns c b rising j lo hi in
      let upto = place_upto t.states t.returns (c ∷ (b + 1) ∷ 0 ∷ []) in
      sym (resumes j y) ∙ implies_elim (caller j) _ (all_elim 0 t.states.size j _ h (omega arith) (omega arith)) (and_intro _ _ (eq-eqb (left t.states j) c x) (eq-eqb (right t.states j) b y))))
      (λ h. all_intro 0 t.states.size _ (λ j lo hi. implies_intro (caller j) _ (λ w.
      let x = eqb-true (left t.states j) c (and_left (eqb (left t.states j) c) (eqb (right t.states j) b) w) in
      let y = eqb-true (right t.states j) b (and_right (eqb (left t.states j) c) (eqb (right t.states j) b) w) in
      resumes j y ∙ elim (dec_lt j (head_from t c b)) [
        | yes l ↦ absurd (heads_before t.states t.returns c b j l x y)
        | no l ↦ elim (dec_lt j (head_to t c b)) [
          | yes k ↦ all_elim (head_from t c b) (head_to t c b) j (wanted p t b n) h (omega arith) k
          | no k ↦ absurd (heads_behind t.states t.returns c b rising j (omega arith) hi x y)
        ]
      ])))

  module _ (b c from to : ℕ) (pushed : b ≡ get_or t.returns i 0) (class : c ≡ left t.states i) (begin : from ≡ head_from t c b) (end : to ≡ head_to t c b) where
    range : is_give_closed p t (state_at t i) n ≡ all from to (wanted p t b n)
    range = rw (begin, end, pushed, class) waiting

    pub gives_none : to ≤ from → true ≡ is_give_closed p t (state_at t i) n
    gives_none l = sym (range ∙ all_end from to (wanted p t b n) l)

    module _ (m : ℕ) (x : Bool) (some : from < to) (name : m ≡ num p b) (held : x ≡ each t.flow n (has t.flow m)) where
      there : each t.flow n (has t.flow (num p b)) ≡ x
      there = sym (rw name at held)

      pub gives_lack : not x ≡ true → false ≡ is_give_closed p t (state_at t i) n
      gives_lack z = sym (range ∙ all_miss from to (wanted p t b n) some (ap (λ y. y && goes_on t (rest p b) from) (there ∙ not-true x z)))

      pub gives_on : (q : ℕ) (y : Bool) → not x ≡ false → q ≡ rest p b → y ≡ all from to (goes_on t q) → y ≡ is_give_closed p t (state_at t i) n
      gives_on q y z e h = h ∙ (ap (λ r. all from to (goes_on t r)) e ∙ sym (range ∙ ap (λ v. all from to (λ j. v && goes_on t (rest p b) j)) (there ∙ not-false x z)))

pub name_given : (p : Program) (t : Tables) (s : State) (r n : ℕ) (x : Bool) → n ≡ num p r → x ≡ is_give_closed p t s n → x ≡ is_give_closed p t s (num p r)
name_given p t s r n x e h = h ∙ ap (is_give_closed p t s) e

-- a state of the range
pub goes_told : (ws : List ℕ) (s : Sizes) (r j k : ℕ) → k ≡ state_index_of (tables ws s) (onward (state_at (tables ws s) j) r) → ltb k s.states ≡ goes_on (tables ws s) r j
unfolding goes_on
goes_told ws s r j k e = state_there ws s (onward (state_at (tables ws s) j) r) k e

-- a callee
module _ (p : Program) (t : Tables) (s : State) (f n : ℕ) (x : Bool) (called : x ≡ takes p f n) where
  pub callee_no : x ≡ false → true ≡ implies (takes p f n) (has_state t (entered p s f))
  unfolding implies
  callee_no z = rw (← called, z)

  pub callee_yes : x ≡ true → (q : ℕ) (b : Bool) → q ≡ body p f → b ≡ has_state t (state s.class q s.location) → b ≡ implies (takes p f n) (has_state t (entered p s f))
  unfolding implies entered
  callee_yes z q b e g = rw (← called, z, ← e) g

-- what is asked because of entry j of the callee
abbrev pub callee_at : Program → Tables → State → ℕ → ℕ → Bool
callee_at p t s r j = implies (takes p (right t.flow j) (num p (r + 2))) (has_state t (entered p s (right t.flow j)))

pub callees_all : (p : Program) (t : Tables) (s : State) (r n : ℕ) (b : Bool) → n ≡ num p (r + 1) → each t.flow n (λ f. implies (takes p f (num p (r + 2))) (has_state t (entered p s f))) ≡ b → callees_of p t s r ≡ b
unfolding callees_of
callees_all p t s r n b e h = (rw e at h)

pub callee_told : (p : Program) (t : Tables) (s : State) (r j f n : ℕ) (b : Bool) → f ≡ right t.flow j → n ≡ num p (r + 2) → b ≡ implies (takes p f n) (has_state t (entered p s f)) → b ≡ callee_at p t s r j
callee_told p t s r j f n b e g h = rw (e, g) at h
