-- The counters whose sum an item counts stand together: the states of a class at a head, the letters of a class that the item names.
use Prim.Native.Nat.{ℕ, suc, ◌+◌, ◌-◌, ◌≤◌, ◌<◌}
use native.Mathlib.Decide.{dec_lt, ℕ_discrete}
use native.Mathlib.Omega.{arith}
use mathlib.Core.Path.{◌≡◌, refl, sym, ◌∙◌, ap}
use mathlib.Core.Bool.{Bool, true, false}
use mathlib.Core.Logic.{⊎_elim}
use mathlib.Core.List.{List, [], ◌∷◌}
use lib.ListN.{length, get_or, drop}
use lib.Dec.{leb, ltb, eqb}
use borrow.Author.Tests.{leb-true, ltb-true, le-leb, lt-ltb, le-ltb, eq-eqb, ne_eqb, eqb-true}
use Rattle.model.specs.declared.Sizes.{Sizes}
use Rattle.model.specs.Keys.{Key, begins}
use Rattle.model.specs.Words.{Columns, left, right, columns}
use Rattle.model.specs.Rows.{Program, program, size}
use Rattle.model.specs.Tables.{Tables, tables, entries, state_at}
use Rattle.model.specs.Bads.{bad_rows, letter_arity_of, Subject, at_head, of_letters, of_letter, past_heads_of, numbers, subject_at}
use Rattle.model.specs.Counters.{letter_count_of, counter_count, letter_of, counter_of, stands_in, is_counter, is_of_number, counts}
use Rattle.model.proofs.Logic.{test, true_false, and_left, and_right, and_intro, or_cases, or_left, or_right}
use Rattle.model.proofs.LetterSums.{counter_letter}
use Rattle.model.proofs.Numbering.Letters.{key_at}
use Rattle.system_letters.proofs.Mailed.{key_told}
use Rattle.lists.specs.Lists.{Ascending, head_from, head_to}
use Rattle.lists.specs.Ready.{Ready}
use Rattle.lists.proofs.Rising.{place_upto, heads_before, heads_within, heads_behind, heads_order}
use Rattle.lists.proofs.Facts.{states_rise}
use Rattle.system_letters.specs.Letters.{class_at, letter_at_of, letters_before}
use Rattle.system_letters.proofs.Tables.{letter_class_low}
use Rattle.system_letters.proofs.Classes.{class_there, before_most}
use Rattle.bads_rows.specs.Items.{Range, subject_from}
use Rattle.bads_rows.proofs.BadRows.{heads_bounds}
use Rattle.system_items.specs.Stretches.{is_named_of, names_letters_of, Stretched}
use Rattle.system_items.proofs.Begun.{begins_elim, begins_same, begins_intro, numbers_turn, numbers_one, numbers_length}
use Rattle.system_items.proofs.Letters.{letter_proper, named_key}

module _ (p : Program) (t : Tables) where
  -- a state that is counted at a head has its class and row
  at_place : (c r x : ℕ) → counts p t (at_head c r) x ≡ true → (left t.states x ≡ c) × (right t.states x ≡ r)
  unfolding counts stands_in state_at
  at_place c r x h =
      let u = and_right (ltb x t.states.size) _ h in
      (eqb-true _ c (and_left (eqb (left t.states x) c) (eqb (right t.states x) r) u), eqb-true _ r (and_right (eqb (left t.states x) c) (eqb (right t.states x) r) u))

  counts_not : (c r x : ℕ) → (left t.states x ≡ c → right t.states x ≡ r → ⊥) → counts p t (at_head c r) x ≡ false
  counts_not c r x n = test (counts p t (at_head c r) x) (λ h. let (a, b) = at_place c r x h in absurd (n a b)) (λ h. h)

  module _ (rising : Ascending t.states t.returns) where
    head_range : (c r : ℕ) → Range p t (at_head c r) (head_from t c r) (head_to t c r)
    unfolding counter_count head_from head_to counts stands_in state_at
    head_range c r =
        let upto = place_upto t.states t.returns (c ∷ (r + 1) ∷ 0 ∷ []) in
        record {
          order = heads_order t.states t.returns c r rising;
          upto = omega arith;
          before = λ x l. counts_not c r x (heads_before t.states t.returns c r x l);
          within = λ x l h. let (a, b) = heads_within t.states t.returns c r rising x l h in
              rw (lt-ltb x t.states.size (omega arith), eq-eqb (left t.states x) c a, eq-eqb (right t.states x) r b);
          behind = λ x l h. elim (dec_lt x t.states.size) [
            | yes z ↦ counts_not c r x (heads_behind t.states t.returns c r rising x l z)
            | no z ↦ rw (le-ltb x t.states.size (omega arith))
          ];
        }

  -- an item of which no counter counts
  pub nothing : (k : Subject) → ((x : ℕ) → x < counter_count p t → counts p t k x ≡ true → ⊥) → Range p t k 0 0
  nothing k none =
      record {
        order = omega arith;
        upto = omega arith;
        before = λ x l. absurd (omega arith);
        within = λ x a l. absurd (omega arith);
        behind = λ x a l. test (counts p t k x) (λ e. absurd (none x l e)) (λ e. e);
      }

-- what an item counts, by the tag of its second row and by whether heads stand behind it
module _ (rows : Columns) (r : ℕ) where
  subject_head : left rows (r + 1) ≡ 41 → subject_from rows r ≡ at_head (right rows r) (right rows (r + 1))
  unfolding subject_from subject_at
  subject_head e = rw (eq-eqb (left rows (r + 1)) 41 e, subject_at)

  module _ (letter : left rows (r + 1) ≡ 41 → ⊥) where
    subject_sum : past_heads_of rows (r + 2) ≡ r + 2 → subject_from rows r ≡ of_letters (right rows r) (right rows (r + 1))
    unfolding subject_from subject_at
    subject_sum e = rw (ne_eqb (left rows (r + 1)) 41 letter, eq-eqb (past_heads_of rows (r + 2)) (r + 2) e, subject_at)

    subject_one : (past_heads_of rows (r + 2) ≡ r + 2 → ⊥) → subject_from rows r ≡ of_letter (right rows r) (right rows (r + 1) ∷ numbers rows (r + 2) (past_heads_of rows (r + 2)))
    unfolding subject_from subject_at
    subject_one e = rw (ne_eqb (left rows (r + 1)) 41 letter, ne_eqb (past_heads_of rows (r + 2)) (r + 2) e, subject_at)

module _ {ws : List ℕ} {s : Sizes} (h : Ready ws s) (r : ℕ) where
  abbrev p : Program
  p = program ws s

  abbrev t : Tables
  t = tables ws s

  abbrev rows : Columns
  rows = bad_rows ws s

  pub item_head : (tag class row from to : ℕ) → tag ≡ left rows (r + 1) → tag ≡ 41 → class ≡ right rows r → row ≡ right rows (r + 1) → from ≡ head_from t class row → to ≡ head_to t class row → Range p t (subject_from rows r) from to
  item_head tag class row from to e z c n a b = rw (a, b, c, n, subject_head rows r (sym e ∙ z)) (head_range p t (states_rise h) (right rows r) (right rows (r + 1)))

  -- the class of its letters, and the row of its minimum
  abbrev c : ℕ
  c = right rows r

  abbrev e : ℕ
  e = past_heads_of rows (r + 2)

  -- what the keys of the letters that it counts begin with: the class, the number, the heads
  abbrev begun : Key
  begun = c ∷ numbers rows (r + 1) e

  behind_number : r + 2 ≤ e
  behind_number = (heads_bounds rows (r + 2)).0

  number_first : numbers rows (r + 1) e ≡ right rows (r + 1) ∷ numbers rows (r + 2) e
  number_first =
      let z : r + 1 + 1 ≡ r + 2 = omega arith in
      rw z at (numbers_turn rows (r + 1) e (omega (arith, behind_number)))

  begun_length : length begun ≡ suc (e - (r + 1))
  begun_length = ap suc (numbers_length rows (r + 1) e (omega (arith, behind_number)))

  -- the key of counter x, behind the states
  module _ (x : ℕ) (lo : t.states.size ≤ x) (hi : x < counter_count p t) where
    abbrev y : ℕ
    y = x - t.states.size

    there : y < letter_count_of p t
    unfolding counter_count
    there = omega arith

    key : key_at p t x ≡ class_at p t y ∷ letter_at_of p t y
    key = key_told p t y there

    begun_class : begins begun (key_at p t x) ≡ true → class_at p t y ≡ c
    begun_class b = sym (ap (λ k. get_or k 0 0) key) ∙ (begins_elim begun (key_at p t x) b).1 0 (omega (arith, begun_length))

  module _ (letter : left rows (r + 1) ≡ 41 → ⊥) where
    -- a counter that is counted is of a letter whose key begins so
    counted_begins : (x : ℕ) → x < counter_count p t → counts p t (subject_from rows r) x ≡ true → (t.states.size ≤ x) × (begins begun (key_at p t x) ≡ true)
    unfolding counts is_of_number
    counted_begins x l k = elim (ℕ_discrete e (r + 2)) [
      | yes z ↦
          let d : is_of_number p t c (right rows (r + 1)) x ≡ true = rw (subject_sum rows r letter z) at k in
          let f : Bool = leb t.states.size x in
          let g : Bool = begins (c ∷ right rows (r + 1) ∷ []) (key_at p t x) in
          (leb-true t.states.size x (and_left f g d), rw (numbers_one rows (r + 1) e (omega arith)) (and_right f g d))
      | no z ↦
          let d : is_counter (counter_of p t (letter_of c (right rows (r + 1) ∷ numbers rows (r + 2) e))) x ≡ true = rw (subject_one rows r letter z) at k in
          let (lo, (hi, key)) = (counter_letter p t c (right rows (r + 1) ∷ numbers rows (r + 2) e) x).0 d in
          (lo, rw (key, number_first) (begins_intro _ _ (omega arith) (λ j k. refl)))
    ]

    -- so has no letter of a class above R a counter that is counted
    pub class_missed : (class : ℕ) → class ≡ right rows r → s.rows < class → Range p t (subject_from rows r) 0 0
    unfolding program columns
    class_missed class is above =
        nothing p t (subject_from rows r)
        (λ x l k. let (lo, b) = counted_begins x l k in omega (arith, begun_class x lo l b, letter_class_low h (y x lo l) (there x lo l)))

    -- as many heads as the letters of the number have, or none
    one_key : (x : ℕ) → x < counter_count p t → counts p t (subject_from rows r) x ≡ true → (e ≡ r + 2 → ⊥) → (t.states.size ≤ x) × (key_at p t x ≡ c ∷ right rows (r + 1) ∷ numbers rows (r + 2) e)
    unfolding counts
    one_key x l k z =
        let d : is_counter (counter_of p t (letter_of c (right rows (r + 1) ∷ numbers rows (r + 2) e))) x ≡ true = rw (subject_one rows r letter z) at k in
        let w = (counter_letter p t c (right rows (r + 1) ∷ numbers rows (r + 2) e) x).0 d in
        (w.0, w.1.1)

    pub none_named : (m : ℕ) → m ≡ past_heads_of rows (r + 2) → names_letters_of p rows (r + 1) m ≡ false → Range p t (subject_from rows r) 0 0
    unfolding names_letters_of
    none_named m is neither =
        nothing p t (subject_from rows r)
        (λ x l k. elim (ℕ_discrete e (r + 2)) [
          | yes z ↦ true_false (or_left (eqb m (r + 1 + 1)) _ (eq-eqb m (r + 1 + 1) (omega arith))) neither
          | no z ↦
              let (lo, at) = one_key x l k z in
              let q = letter_proper h (y x lo l) (there x lo l) in
              let same : class_at p t (y x lo l) ∷ letter_at_of p t (y x lo l) ≡ c ∷ right rows (r + 1) ∷ numbers rows (r + 2) e = sym (key x lo l) ∙ at in
              let is_letter : q.number ∷ q.heads ≡ right rows (r + 1) ∷ numbers rows (r + 2) e = q.is ∙ ap (drop 1) same in
              let number : q.number ≡ right rows (r + 1) = cc in
              let heads : q.heads ≡ numbers rows (r + 2) e = cc in
              let many : length (numbers rows (r + 2) e) ≡ letter_arity_of p (right rows (r + 1)) = sym (ap length heads) ∙ (q.many ∙ ap (letter_arity_of p) number) in
              let long = numbers_length rows (r + 2) e behind_number in
              true_false (or_right (eqb m (r + 1 + 1)) _ (eq-eqb m (r + 1 + 1 + letter_arity_of p (right rows (r + 1))) (omega (arith, behind_number)))) neither
        ])

    -- the other way round: a key that begins so is counted
    module _ (names : names_letters_of p rows (r + 1) e ≡ true) where
      begun_same : (x : ℕ) (lo : t.states.size ≤ x) (l : x < counter_count p t) → (e ≡ r + 2 → ⊥) → begins begun (key_at p t x) ≡ true → key_at p t x ≡ begun
      unfolding names_letters_of
      begun_same x lo l z b =
          let q = letter_proper h (y x lo l) (there x lo l) in
          let first = (begins_elim begun (key_at p t x) b).1 1 (omega (arith, begun_length, behind_number)) in
          let number : q.number ≡ right rows (r + 1) =
          ap (λ k. get_or k 0 0) q.is ∙ (sym (ap (λ k. get_or k 1 0) (key x lo l)) ∙ (first ∙ ap (λ k. get_or k 0 0) number_first)) in
          let digits : length (letter_at_of p t (y x lo l)) ≡ suc (length q.heads) = sym (ap length q.is) in
          let many : length q.heads ≡ letter_arity_of p (right rows (r + 1)) = q.many ∙ ap (letter_arity_of p) number in
          let long : length (key_at p t x) ≡ suc (length (letter_at_of p t (y x lo l))) = ap length (key x lo l) in
          ⊎_elim (λ v. absurd (z (let u = eqb-true e (r + 1 + 1) v in omega arith)))
          (λ v. begins_same begun (key_at p t x) b (let u = eqb-true e (r + 1 + 1 + letter_arity_of p (right rows (r + 1))) v in omega (arith, begun_length)))
          (or_cases (eqb e (r + 1 + 1)) (eqb e (r + 1 + 1 + letter_arity_of p (right rows (r + 1)))) names)

      begun_counted : (x : ℕ) → t.states.size ≤ x → x < counter_count p t → begins begun (key_at p t x) ≡ true → counts p t (subject_from rows r) x ≡ true
      unfolding counts is_of_number
      begun_counted x lo l b = elim (ℕ_discrete e (r + 2)) [
        | yes z ↦
            let d : begins (c ∷ right rows (r + 1) ∷ []) (key_at p t x) ≡ true = rw (numbers_one rows (r + 1) e (omega arith)) at b in
            rw (subject_sum rows r letter z) (and_intro (leb t.states.size x) _ (le-leb t.states.size x lo) d)
        | no z ↦
            let at : key_at p t x ≡ c ∷ right rows (r + 1) ∷ numbers rows (r + 2) e = begun_same x lo l z b ∙ ap (λ k. c ∷ k) number_first in
            rw (subject_one rows r letter z) ((counter_letter p t c (right rows (r + 1) ∷ numbers rows (r + 2) e) x).1 (lo, (l, at)))
      ]

      -- the counters of the letters that are named
      module _ (from to : ℕ) (g : Stretched (is_named_of p t rows (r + 1) e) (letters_before p t c) (letters_before p t (c + 1)) from to) where
        inside : (x : ℕ) → x < counter_count p t → counts p t (subject_from rows r) x ≡ true → (t.states.size + from ≤ x) × (x < t.states.size + to)
        inside x l k =
            let (lo, b) = counted_begins x l k in
            let span = class_there p t c (y x lo l) (there x lo l) (begun_class x lo l b) in
            let named = named_key h (r + 1) e names c (y x lo l) span.0 span.1 ∙ b in
            let z = sym (g.each (y x lo l) span.0 span.1) ∙ named in
            let a = leb-true from (y x lo l) (and_left (leb from (y x lo l)) (ltb (y x lo l) to) z) in
            let d = ltb-true (y x lo l) to (and_right (leb from (y x lo l)) (ltb (y x lo l) to) z) in
            (omega arith, omega arith)

        within : (x : ℕ) → t.states.size + from ≤ x → x < t.states.size + to → counts p t (subject_from rows r) x ≡ true
        unfolding counter_count
        within x a b =
            let l : x < counter_count p t = omega (arith, g.upto, before_most p t (c + 1)) in
            let lo : t.states.size ≤ x = omega arith in
            let u : letters_before p t c ≤ y x lo l = omega (arith, g.some (omega arith)) in
            let v : y x lo l < letters_before p t (c + 1) = omega (arith, g.upto) in
            let z = g.each (y x lo l) u v ∙ and_intro (leb from (y x lo l)) (ltb (y x lo l) to) (le-leb from (y x lo l) (omega arith)) (lt-ltb (y x lo l) to (omega arith)) in
            begun_counted x lo l (sym (named_key h (r + 1) e names c (y x lo l) u v) ∙ z)

        named_range : Range p t (subject_from rows r) (t.states.size + from) (t.states.size + to)
        unfolding counter_count
        named_range =
            record {
              order = omega (arith, g.order);
              upto = omega (arith, g.upto, before_most p t (c + 1));
              before = λ x l. test (counts p t (subject_from rows r) x)
                  (λ k. absurd (omega (arith, (inside x (omega (arith, g.order, g.upto, before_most p t (c + 1))) k).0))) (λ k. k);
              within = within;
              behind = λ x a l. test (counts p t (subject_from rows r) x) (λ k. absurd (omega (arith, (inside x l k).1))) (λ k. k);
            }

    pub letters_range : (class m from to : ℕ) → class ≡ right rows r → m ≡ past_heads_of rows (r + 2) → names_letters_of p rows (r + 1) m ≡ true → Stretched (is_named_of p t rows (r + 1) m) (letters_before p t class) (letters_before p t (class + 1)) from to → Range p t (subject_from rows r) (s.states + from) (s.states + to)
    unfolding tables entries columns
    letters_range class m from to a b names g = named_range (rw b at names) from to (rw (a, b) at g)
