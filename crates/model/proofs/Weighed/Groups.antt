-- What items count: a single letter's counter, or a group; two groups are one or apart. No item counts what is no counter.
use Prim.Native.Nat.{ℕ, ◌+◌, ◌-◌, ◌≤◌, ◌<◌}
use native.Mathlib.Decide.{dec_lt}
use native.Mathlib.Omega.{arith}
use mathlib.Core.Path.{◌≡◌, refl, sym, ◌∙◌, ap, subst}
use mathlib.Core.Bool.{Bool, true, false, ◌&&◌}
use mathlib.Core.List.{List, [], ◌∷◌}
use mathlib.Core.Option.{Option, some, none}
use lib.ListN.{length, get_or, get_or-eq_default}
use lib.Dec.{leb, ltb, eqb}
use borrow.Author.Tests.{leb-true, le-leb, ltb-true, eqb-true, eq-eqb}
use Rattle.model.specs.Keys.{begins}
use Rattle.model.specs.Rows.{Program}
use Rattle.model.specs.Tables.{Tables, State, state_at}
use Rattle.model.specs.Bads.{Subject, at_head, of_letters, of_letter}
use Rattle.model.specs.Counters.{letter_keys, letter_count_of, counter_count, letter_of, counter_of, stands_in, is_counter, is_of_number, counts}
use Rattle.model.specs.Weights.{is_single_of}
use Rattle.model.proofs.Logic.{test, true_false, and_left, and_right, and_intro}
use Rattle.model.proofs.Reader.{by_option}
use Rattle.model.proofs.Numbering.Counters.{counter_below}
use Rattle.model.proofs.Numbering.Letters.{key_at}
use Rattle.model.proofs.LetterSums.{begins_two}

module _ (p : Program) (t : Tables) where
  abbrev n : ℕ
  n = counter_count p t

  abbrev at : Subject → ℕ → Type 0
  at k x = counts p t k x ≡ true

  -- one counter
  counter_one : (o : Option ℕ) (x y : ℕ) → is_counter o x ≡ true → is_counter o y ≡ true → x ≡ y
  unfolding is_counter
  counter_one none x y h k = true_false h refl
  counter_one (some z) x y h k = eqb-true x z h ∙ sym (eqb-true y z k)

  pub single_one : (k : Subject) (x y : ℕ) → is_single_of k ≡ true → at k x → at k y → x ≡ y
  unfolding counts is_single_of
  single_one (at_head c r) x y s h k = true_false s refl
  single_one (of_letters c l) x y s h k = true_false s refl
  single_one (of_letter c l) x y s h k = counter_one (counter_of p t (letter_of c l)) x y h k

  -- what an item counts is a counter
  begun : (c k x : ℕ) → is_of_number p t c k x ≡ true → (t.states.size ≤ x) × ((hs : List ℕ) × (key_at p t x ≡ c ∷ k ∷ hs))
  unfolding is_of_number
  begun c k x h =
      let first : Bool = leb t.states.size x in
      let second : Bool = begins (c ∷ k ∷ []) (key_at p t x) in
      (leb-true t.states.size x (and_left first second h), (begins_two c k (key_at p t x)).0 (and_right first second h))

  begun_back : (c k x : ℕ) (hs : List ℕ) → leb t.states.size x ≡ true → key_at p t x ≡ c ∷ k ∷ hs → is_of_number p t c k x ≡ true
  unfolding is_of_number
  begun_back c k x hs l e = and_intro (leb t.states.size x) (begins (c ∷ k ∷ []) (key_at p t x)) l ((begins_two c k (key_at p t x)).1 (hs, e))

  pub counted_below : (k : Subject) (x : ℕ) → at k x → x < n
  unfolding counts counter_count letter_count_of is_counter
  counted_below (at_head c r) x h = let l = ltb-true x t.states.size (and_left (ltb x t.states.size) (stands_in c r (state_at t x)) h) in omega arith
  counted_below (of_letters c k) x h =
      let (l, (hs, e)) = begun c k x h in
      elim (dec_lt x (t.states.size + length (letter_keys p t))) [
        | yes b ↦ b
        | no b ↦
            let past = get_or-eq_default (letter_keys p t) [] {n = x - t.states.size} (omega arith) in
            let z : ◌≡◌ {A = ℕ} 0 1 = cc in
            absurd (omega arith)
      ]
  counted_below (of_letter c l) x h =
      by_option (counter_of p t (letter_of c l))
      (λ e. true_false (subst (λ (o : Option ℕ). is_counter o x ≡ true) e h) refl)
      (λ y e. let z = eqb-true x y (subst (λ (o : Option ℕ). is_counter o x ≡ true) e h) in let b = counter_below p t (letter_of c l) y e in omega arith)

  -- a state's class and head
  stood : (c r : ℕ) (s : State) → stands_in c r s ≡ true → (s.class ≡ c) × (s.location ≡ r)
  unfolding stands_in
  stood c r s h = (eqb-true s.class c (and_left _ _ h), eqb-true s.location r (and_right (eqb s.class c) _ h))

  -- two groups that have a counter in common are one
  pub same_group : (k k' : Subject) (x y : ℕ) → is_single_of k ≡ false → is_single_of k' ≡ false → at k x → at k y → at k' x → at k' y
  unfolding counts is_single_of stands_in
  same_group (at_head c r) (at_head c' r') x y s s' a b d =
      let (c1, r1) = stood c r (state_at t x) (and_right (ltb x t.states.size) _ a) in
      let (c2, r2) = stood c r (state_at t y) (and_right (ltb y t.states.size) _ b) in
      let (c3, r3) = stood c' r' (state_at t x) (and_right (ltb x t.states.size) _ d) in
      and_intro (ltb y t.states.size) _ (and_left (ltb y t.states.size) _ b)
      (and_intro (eqb (state_at t y).class c') _ (eq-eqb (state_at t y).class c' (omega arith)) (eq-eqb (state_at t y).location r' (omega arith)))
  same_group (at_head c r) (of_letters c' l') x y s s' a b d =
      let l = ltb-true x t.states.size (and_left (ltb x t.states.size) _ a) in
      let (h, u) = begun c' l' x d in
      absurd (omega arith)
  same_group (at_head c r) (of_letter c' l') x y s s' a b d = true_false refl s'
  same_group (of_letters c l) (at_head c' r') x y s s' a b d =
      let h = ltb-true x t.states.size (and_left (ltb x t.states.size) _ d) in
      let (v, u) = begun c l x a in
      absurd (omega arith)
  same_group (of_letters c l) (of_letters c' l') x y s s' a b d =
      let (h1, (g1, e1)) = begun c l x a in
      let (h2, (g2, e2)) = begun c l y b in
      let (h3, (g3, e3)) = begun c' l' x d in
      let q : c ∷ l ∷ g1 ≡ c' ∷ l' ∷ g3 = sym e1 ∙ e3 in
      let u : c ≡ c' = cc in
      let v : l ≡ l' = cc in
      begun_back c' l' y g2 (le-leb t.states.size y h2) (rw (sym u, sym v) e2)
  same_group (of_letters c l) (of_letter c' l') x y s s' a b d = true_false refl s'
  same_group (of_letter c l) k' x y s s' a b d = true_false refl s
