-- The counts per class and constructor are the sums of those per letter (specs/Sums.antt): in a station, whose messages
-- have one head for each argument, and in the counters, each of which is of one letter.
use Prim.Native.Nat.{ℕ, zero, suc, ◌+◌, ◌-◌, ◌≤◌, ◌<◌}
use native.Mathlib.Omega.{arith}
use mathlib.Core.Path.{◌≡◌, refl, sym, ◌∙◌, ap, subst}
use mathlib.Core.Bool.{Bool, true, false, ◌&&◌}
use mathlib.Core.Logic.{◌↔◌}
use mathlib.Core.List.{List, [], ◌∷◌, Memᴰ}
use mathlib.Core.Option.{Option, some, none}
use lib.ListN.{length, get_or}
use lib.Dec.{leb, ltb, eqb}
use borrow.Author.Tests.{eqb-true, eq-eqb, ne_eqb, leb-true, le-leb, ltb-true, lt-ltb}
use Rattle.model.specs.Index.{total, gather}
use Rattle.model.specs.Keys.{Key, begins, same_key}
use Rattle.model.specs.Rows.{Program, size, tag, num, arity, is_head_of}
use Rattle.model.specs.Heads.{is_function}
use Rattle.model.specs.Values.{Value, closure, built, address, Bindings, empty, bind, Process, Processes}
use Rattle.model.specs.Letters.{head, head_count, row_shape, row_head_of, value_shape, value_head, heads_of, argument_heads, value_letter, Letter, one_if, letters_in, mailbox_count, messages_of}
use Rattle.model.specs.Tables.{Tables}
use Rattle.model.specs.Closed.{argument}
use Rattle.model.specs.Bads.{letter_arity_of, of_letters}
use Rattle.model.specs.Counters.{name_heads, heads_each, letters_allowed, any_argument, letter_keys, counter_count, Counted, letter_of, counter_of, is_counter, is_of_number, counts}
use Rattle.model.specs.Markings.{Marking, standing, count_in, sum_in}
use Rattle.model.specs.Sums.{numbers_in, messages_in, over_heads, over_letters}
use Rattle.model.proofs.Logic.{test, true_false, and_left, and_right, and_intro}
use Rattle.model.proofs.Reader.{by_option}
use Rattle.model.proofs.Keys.{same_key_iff}
use Rattle.model.proofs.Index.{total_same, total_none, total_plus, total_swap, total_one}
use Rattle.model.proofs.Covering.{row_for, names_of, Covered, Held}
use Rattle.model.proofs.Steps.Letters.{Classes, head_kept}
use Rattle.model.proofs.Parse.Reached.{RowsFit}
use Rattle.model.proofs.Parse.Lengths.{ColumnsWhole, row_location, build_length}
use Rattle.model.proofs.Numbering.Letters.{key_at, key_there, key_from, key_has, index_key, index_at, letter_index_behind, letter_index_below}
use Rattle.model.proofs.Numbering.Counters.{letter_counter, letter_numbered, plain_head}
use Rattle.model.proofs.Numbering.Choices.{gather_chosen, head_of_name, built_head, letter_from}
use Rattle.model.proofs.Invariant.{AllGood}

-- Sums over heads
module _ (p : Program) where
  pub heads_same : (a : ℕ) (f g : List ℕ → ℕ) → ((hs : List ℕ) → f hs ≡ g hs) → over_heads p a f ≡ over_heads p a g
  unfolding over_heads
  heads_same zero f g h = h []
  heads_same (suc a) f g h =
      total_same 0 (head_count p) _ _ (λ k lo hi. heads_same a (λ hs. f (k ∷ hs)) (λ hs. g (k ∷ hs)) (λ hs. h (k ∷ hs)))

  heads_none : (a : ℕ) (f : List ℕ → ℕ) → ((hs : List ℕ) → f hs ≡ 0) → over_heads p a f ≡ 0
  unfolding over_heads
  heads_none zero f h = h []
  heads_none (suc a) f h = total_none 0 (head_count p) _ (λ k lo hi. heads_none a (λ hs. f (k ∷ hs)) (λ hs. h (k ∷ hs)))

  heads_plus : (a : ℕ) (f g : List ℕ → ℕ) → over_heads p a (λ hs. f hs + g hs) ≡ over_heads p a f + over_heads p a g
  unfolding over_heads
  heads_plus zero f g = refl
  heads_plus (suc a) f g =
      total_same 0 (head_count p) _ _ (λ k lo hi. heads_plus a (λ hs. f (k ∷ hs)) (λ hs. g (k ∷ hs))) ∙
      total_plus 0 (head_count p) (λ k. over_heads p a (λ hs. f (k ∷ hs))) (λ k. over_heads p a (λ hs. g (k ∷ hs)))

  heads_swap : (a n : ℕ) (f : ℕ → List ℕ → ℕ) → total 0 n (λ x. over_heads p a (f x)) ≡ over_heads p a (λ hs. total 0 n (λ x. f x hs))
  unfolding over_heads
  heads_swap zero n f = refl
  heads_swap (suc a) n f =
      total_swap 0 n 0 (head_count p) (λ x k. over_heads p a (λ hs. f x (k ∷ hs))) ∙
      total_same 0 (head_count p) _ _ (λ k lo hi. heads_swap a n (λ x hs. f x (k ∷ hs)))

  -- each is a head
  abbrev pub Lows : List ℕ → Type 0
  Lows [] = Unit {0}
  Lows (h ∷ hs) = (h < head_count p) × Lows hs

  heads_one : (a : ℕ) (hs : List ℕ) (f : List ℕ → ℕ) → length hs ≡ a → Lows hs → ((gs : List ℕ) → (gs ≡ hs → ⊥) → f gs ≡ 0) → over_heads p a f ≡ f hs
  unfolding over_heads
  heads_one zero [] f l low h = refl
  heads_one zero (x ∷ hs) f l low h = absurd (omega arith)
  heads_one (suc a) [] f l low h = absurd (omega arith)
  heads_one (suc a) (x ∷ hs) f l low h =
      total_one 0 (head_count p) x (λ k. over_heads p a (λ gs. f (k ∷ gs))) (omega arith) low.0
      (λ k n. heads_none a (λ gs. f (k ∷ gs)) (λ gs. h (k ∷ gs) (λ e. n (cc)))) ∙
      heads_one a hs (λ gs. f (x ∷ gs)) (omega arith) low.1 (λ gs n. h (x ∷ gs) (λ e. n (cc)))

  -- a letter has a head for each argument
  pub record Proper (l : Letter) : Type 0 where
    pub number : ℕ
    pub heads : List ℕ
    pub is : number ∷ heads ≡ l
    pub many : length heads ≡ letter_arity_of p number
    pub lows : Lows heads

  -- The station: each message is of one letter

  message_sum : (v : Value) (k : ℕ) → Proper (value_letter p v) → one_if (eqb (value_head p v) k) ≡ over_letters p k (λ l. one_if (same_key (value_letter p v) l))
  unfolding over_letters value_letter one_if
  message_sum v k proper =
      let hs : List ℕ = argument_heads p v in
      let is : proper.number ∷ proper.heads ≡ value_head p v ∷ hs = proper.is in
      let number : proper.number ≡ value_head p v = cc in
      let heads : proper.heads ≡ hs = cc in
      test (eqb (value_head p v) k)
      (λ e.
      let z = eqb-true (value_head p v) k e in
      let here : same_key (value_head p v ∷ hs) (k ∷ hs) ≡ true = (same_key_iff (value_head p v ∷ hs) (k ∷ hs)).1 (ap (λ x. x ∷ hs) z) in
      rw (e, one_if)
      (sym (heads_one (letter_arity_of p k) hs (λ gs. one_if (same_key (value_head p v ∷ hs) (k ∷ gs))) (sym (ap length heads) ∙ (proper.many ∙ ap (letter_arity_of p) (number ∙ z))) (subst Lows heads proper.lows)
      (λ gs n. other (same_key (value_head p v ∷ hs) (k ∷ gs)) (λ t. n (let same = (same_key_iff (value_head p v ∷ hs) (k ∷ gs)).0 t in cc))) ∙
      ap one_if here)))
      (λ e. rw (e, one_if)
      (sym (heads_none (letter_arity_of p k) (λ gs. one_if (same_key (value_head p v ∷ hs) (k ∷ gs)))
      (λ gs. other (same_key (value_head p v ∷ hs) (k ∷ gs)) (λ t. let same = (same_key_iff (value_head p v ∷ hs) (k ∷ gs)).0 t in let z : value_head p v ≡ k = cc in true_false (eq-eqb (value_head p v) k z) e)))))
    where
      other : (b : Bool) → (b ≡ true → ⊥) → one_if b ≡ 0
      other true n = absurd (n refl)
      other false n = refl

  mailbox_sum : (vs : List Value) (k : ℕ) → ((v : Value) → Memᴰ v vs → Proper (value_letter p v)) → numbers_in p vs k ≡ over_letters p k (λ l. letters_in p vs l)
  unfolding numbers_in letters_in over_letters
  mailbox_sum [] k h = sym (heads_none (letter_arity_of p k) (λ hs. 0) (λ hs. refl))
  mailbox_sum (v ∷ vs) k h =
      let a = heads_plus (letter_arity_of p k) (λ hs. one_if (same_key (value_letter p v) (k ∷ hs))) (λ hs. letters_in p vs (k ∷ hs)) in
      let b = message_sum v k (h v (Memᴰ.head refl)) in
      let c = mailbox_sum vs k (λ u m. h u (Memᴰ.tail m)) in
      omega arith

  -- each message of each process
  abbrev pub MailsProper : Processes → Type 0
  MailsProper [] = Unit {0}
  MailsProper (q ∷ qs) = ((v : Value) → Memᴰ v q.mailbox → Proper (value_letter p v)) × MailsProper qs

  own_sum : (q : Process) (c k : ℕ) → ((v : Value) → Memᴰ v q.mailbox → Proper (value_letter p v)) → elim (eqb q.class c) [ true ↦ numbers_in p q.mailbox k | false ↦ 0 ] ≡ over_letters p k (λ l. mailbox_count p q c l)
  unfolding over_letters mailbox_count
  own_sum q c k h =
      test (eqb q.class c)
      (λ e. rw e (mailbox_sum q.mailbox k h ∙ heads_same (letter_arity_of p k) (λ hs. letters_in p q.mailbox (k ∷ hs)) (λ hs. mailbox_count p q c (k ∷ hs)) (λ hs. sym (rw (e, mailbox_count)))))
      (λ e. rw e (sym (heads_none (letter_arity_of p k) (λ hs. mailbox_count p q c (k ∷ hs)) (λ hs. rw (e, mailbox_count)))))

  pub messages_sum : (qs : Processes) → MailsProper qs → (c k : ℕ) → messages_in p qs c k ≡ over_letters p k (λ l. messages_of p qs c l)
  unfolding messages_in messages_of over_letters
  messages_sum [] h c k = sym (heads_none (letter_arity_of p k) (λ hs. 0) (λ hs. refl))
  messages_sum (q ∷ qs) h c k =
      let a = heads_plus (letter_arity_of p k) (λ hs. mailbox_count p q c (k ∷ hs)) (λ hs. messages_of p qs c (k ∷ hs)) in
      let b = own_sum q c k h.0 in
      let r = messages_sum qs h.1 c k in
      omega arith

-- what a counter gives where a test passes
abbrev pub where_passes : Bool → ℕ → ℕ
where_passes passes n = elim passes [ true ↦ n | false ↦ 0 ]

-- the counter alone, of all there are
pub standing_sum : (n : ℕ) (m : Marking) (o : Option ℕ) → ((y : ℕ) → o ≡ some y → y < n) → total 0 n (λ x. where_passes (is_counter o x) (m x)) ≡ standing m o
unfolding is_counter standing
standing_sum n m none below = total_none 0 n (λ x. 0) (λ x lo hi. refl)
standing_sum n m (some y) below =
    let f : ℕ → ℕ = λ x. where_passes (eqb x y) (m x) in
    total_one 0 n y f (omega arith) (below y refl) (λ x z. rw (ne_eqb x y z)) ∙ (rw (eq-eqb y y refl))

-- a key that begins with two numbers
pub begins_two : (c k : ℕ) (key : Key) → (begins (c ∷ k ∷ []) key ≡ true) ↔ ((hs : List ℕ) × (key ≡ c ∷ k ∷ hs))
unfolding begins
begins_two c k [] = (λ h. true_false h refl, λ h. let (hs, e) = h in let z : ◌≡◌ {A = ℕ} 0 1 = cc in absurd (omega arith))
begins_two c k (x ∷ []) = (
  λ h. true_false (and_right (eqb c x) false h) refl,
  λ h. let (hs, e) = h in let z : ◌≡◌ {A = ℕ} 0 1 = cc in absurd (omega arith),
)
begins_two c k (x ∷ y ∷ hs) = (
  λ h.
      let a = eqb-true c x (and_left (eqb c x) (eqb k y && true) h) in
      let b = eqb-true k y (and_left (eqb k y) true (and_right (eqb c x) (eqb k y && true) h)) in
      (hs, cc),
  λ h.
      let (gs, e) = h in
      let a : c ≡ x = cc in
      let b : k ≡ y = cc in
      and_intro (eqb c x) (eqb k y && true) (eq-eqb c x a) (and_intro (eqb k y) true (eq-eqb k y b) refl),
)

-- The counters: each counter of a letter is of one
module _ (p : Program) (t : Tables) where
  abbrev n : ℕ
  n = counter_count p t

  -- x is the counter of the letter of its key, and of no other
  pub counter_letter : (c : ℕ) (l : Letter) (x : ℕ) → (is_counter (counter_of p t (letter_of c l)) x ≡ true) ↔ ((t.states.size ≤ x) × ((x < n) × (key_at p t x ≡ c ∷ l)))
  unfolding is_counter
  counter_letter c l x = (
    λ h. by_option (counter_of p t (letter_of c l)) (λ e. true_false (rw e at h) refl)
        (λ y e.
        let (has, is) = letter_numbered p t c l y e in
        let z : x ≡ y = eqb-true x y (rw e at h) in
        let w = z ∙ sym is in
        (omega (arith, letter_index_behind p t c l), (omega (arith, letter_index_below p t c l has), ap (key_at p t) w ∙ index_key p t c l has))),
    λ h.
        let (lo, (hi, e)) = h in
        let has = key_has p t c l (subst (λ k. Memᴰ k (letter_keys p t)) e (key_there p t x lo hi)) in
        rw (letter_counter p t c l has) (eq-eqb x _ (sym (index_at p t x c l lo hi (sym e)))),
  )

  -- the letters that have counters are proper, where builds are of a constructor
  module _ (made : (v : ℕ) → tag p v ≡ 2 → num p (v + 1) < p.constructors) where
    letter_proper : (v : ℕ) (l : Letter) → Memᴰ l (letters_allowed p t v) → Proper p l
    unfolding letters_allowed heads_each letter_arity_of gather
    letter_proper v l m =
        let f = letter_from p t any_argument v l m in
        test (eqb (tag p v) 2)
        (λ e.
        let b = eqb-true (tag p v) 2 e in
        let h = built_head p t v b in
        let c = f.built b in
        let low : row_head_of p v < p.constructors = omega (arith, made v b) in
        let (many, each) = gather_chosen (arity p (num p (v + 1)) - 0) 0 (λ i. name_heads p t (any_argument i) (argument p v i)) f.heads c in
        record {
          number = row_head_of p v;
          heads = f.heads;
          is = f.is;
          many = rw (lt-ltb (row_head_of p v) p.constructors low, letter_arity_of) (many ∙ minus (arity p (num p (v + 1))) ∙ ap (arity p) (sym h));
          lows = lows_at f.heads (λ j b'. (head_of_name p t (any_argument (0 + j)) (argument p v (0 + j)) (get_or f.heads j 0) (each j (omega arith))).0);
        })
        (λ e.
        let none_left = f.plain e in
        let high = plain_head p v e in
        record {
          number = row_head_of p v;
          heads = f.heads;
          is = f.is;
          many = rw (ge_ltb (row_head_of p v) p.constructors high, letter_arity_of) (ap length none_left);
          lows = subst (Lows p) (sym none_left) tt;
        })
      where
        minus : (n : ℕ) → n - 0 ≡ n
        minus n = omega arith

        ge_ltb : (a b : ℕ) → b ≤ a → ltb a b ≡ false
        ge_ltb a b h = test (ltb a b) (λ z. absurd (omega (arith, ltb-true a b z))) (λ z. z)

        lows_at : (hs : List ℕ) → ((j : ℕ) → j < length hs → get_or hs j 0 < head_count p) → Lows p hs
        lows_at [] h = tt
        lows_at (x ∷ hs) h = (h 0 (omega arith), lows_at hs (λ j b. h (suc j) (omega arith)))

    pub key_proper : (x c : ℕ) (l : Letter) → t.states.size ≤ x → x < n → key_at p t x ≡ c ∷ l → Proper p l
    key_proper x c l lo hi e =
        let a = key_from p t (key_at p t x) (key_there p t x lo hi) in
        let z : a.class ∷ a.letter ≡ c ∷ l = a.same ∙ e in
        let same : a.letter ≡ l = cc in
        subst (Proper p) same (letter_proper a.value a.letter a.allows)

    -- a counter gives its constructor what it gives its letter
    number_sum : (m : Marking) (c k x : ℕ) → x < n → over_letters p k (λ l. where_passes (is_counter (counter_of p t (letter_of c l)) x) (m x)) ≡ where_passes (counts p t (of_letters c k) x) (m x)
    unfolding counts is_of_number over_letters
    number_sum m c k x hi =
        let a : ℕ = letter_arity_of p k in
        let f : List ℕ → ℕ = λ hs. where_passes (is_counter (counter_of p t (letter_of c (k ∷ hs))) x) (m x) in
        let behind : Bool = leb t.states.size x in
        let begun : Bool = begins (c ∷ k ∷ []) (key_at p t x) in
        test (behind && begun)
        (λ e.
        let lo = leb-true t.states.size x (and_left behind begun e) in
        let (hs, key) = (begins_two c k (key_at p t x)).0 (and_right behind begun e) in
        let proper = key_proper x c (k ∷ hs) lo hi key in
        let is = proper.is in
        let number : proper.number ≡ k = cc in
        let heads : proper.heads ≡ hs = cc in
        let own = (counter_letter c (k ∷ hs) x).1 (lo, (hi, key)) in
        rw e
        (heads_one p a hs f (sym (ap length heads) ∙ (proper.many ∙ ap (letter_arity_of p) number)) (subst (Lows p) heads proper.lows)
        (λ gs z. test (is_counter (counter_of p t (letter_of c (k ∷ gs))) x)
        (λ w. let other = ((counter_letter c (k ∷ gs) x).0 w).1.1 in absurd (z (cc)))
        (λ w. rw w)) ∙ rw own))
        (λ e. rw e
        (heads_none p a f
        (λ gs. test (is_counter (counter_of p t (letter_of c (k ∷ gs))) x)
        (λ w. let (lo, (hi', key)) = (counter_letter c (k ∷ gs) x).0 w in
        true_false (and_intro behind begun (le-leb t.states.size x lo) ((begins_two c k (key_at p t x)).1 (gs, key))) e)
        (λ w. rw w))))

    pub letters_sum : (m : Marking) → ((k : Counted) (y : ℕ) → counter_of p t k ≡ some y → y < n) → (c k : ℕ) → sum_in p t m (of_letters c k) ≡ over_letters p k (λ l. count_in p t m (letter_of c l))
    unfolding sum_in count_in over_letters
    letters_sum m below c k =
        total_same 0 n _ _ (λ x lo hi. sym (number_sum m c k x hi)) ∙
        (heads_swap p (letter_arity_of p k) n (λ x hs. where_passes (is_counter (counter_of p t (letter_of c (k ∷ hs))) x) (m x)) ∙
        heads_same p (letter_arity_of p k) _ _ (λ hs. standing_sum n m (counter_of p t (letter_of c (k ∷ hs))) (below (letter_of c (k ∷ hs)))))

-- The messages of a run are proper: they are covered
module _ (p : Program) (t : Tables) (fit : RowsFit p) (w : ColumnsWhole p) (past_end : tag p (size p) ≡ 0) (made : (v : ℕ) → tag p v ≡ 2 → num p (v + 1) < p.constructors) (low : (v : ℕ) → row_head_of p v < head_count p) (classes : List ℕ) (classed : Classes p classes) where
  heads_length : (vs : Bindings) → length (heads_of p vs) ≡ length (names_of vs)
  unfolding heads_of names_of
  heads_length empty = refl
  heads_length (bind n v vs) = ap suc (heads_length vs)

  heads_low : (vs : Bindings) → Held p t classes vs → Lows p (heads_of p vs)
  unfolding heads_of
  heads_low empty h = tt
  heads_low (bind n v vs) h =
      let (m, c, hs) = h in
      let e = head_kept p t classes v past_end classed c in
      (omega (arith, low (row_for classes v)), heads_low vs hs)

  no_heads : (k : ℕ) → p.constructors ≤ k → letter_arity_of p k ≡ 0
  unfolding letter_arity_of
  no_heads k h = test (ltb k p.constructors) (λ z. absurd (omega (arith, ltb-true k p.constructors z))) (λ z. rw (z, letter_arity_of))

  covered_proper : (v : Value) → Covered p t classes v → Proper p (value_letter p v)
  unfolding value_letter value_head value_shape argument_heads head letter_arity_of is_head_of
  covered_proper (closure f held) c =
      record { number = p.constructors; heads = []; is = refl; many = sym (no_heads p.constructors (omega arith)); lows = tt }
  covered_proper (built r k vs) c =
      let (builds, is_made, names, held) = c in
      let small : k < p.constructors = omega (arith, made r builds) in
      let len = ap length names ∙ rw is_made at (build_length w (row_location fit w r (rw builds)) builds) in
      record {
        number = k;
        heads = heads_of p vs;
        is = refl;
        many = rw (lt-ltb k p.constructors small, letter_arity_of) (heads_length vs ∙ len);
        lows = heads_low vs held;
      }
  covered_proper (address i) c =
      record { number = p.constructors + 1; heads = []; is = refl; many = sym (no_heads (p.constructors + 1) (omega arith)); lows = tt }

  pub good_proper : (qs : Processes) → AllGood p t classes qs → MailsProper p qs
  good_proper [] g = tt
  good_proper (q ∷ qs) g = (λ v m. covered_proper v (g.0.mailbox v m).1, good_proper qs g.1)
