-- What the letters of mail are: as many digits as their number says, each a head; and which of them rows of the bads name.
use Prim.Native.Nat.{ℕ, zero, suc, ◌+◌, ◌-◌, ◌*◌, ◌≤◌, ◌<◌}
use native.Mathlib.Nat.{mul-le-mul}
use native.Mathlib.Omega.{arith}
use mathlib.Core.Path.{◌≡◌, refl, sym, ◌∙◌, ap, subst}
use mathlib.Core.Bool.{Bool, true, false, not, ◌&&◌}
use mathlib.Core.Logic.{⊎_elim}
use mathlib.Core.List.{List, [], ◌∷◌, ◌++◌, append_assoc}
use mathlib.Core.Option.{some}
use lib.ListN.{length, get_or, drop, replicate, get_or-eq_default}
use lib.Dec.{eqb, leb, ltb}
use borrow.Author.Tests.{not-true, not-false, eqb-true, eq-eqb, ne_eqb, leb-true, ltb-true}
use Rattle.bits.specs.Bits.{member, Row}
use Rattle.model.specs.declared.Sizes.{Sizes}
use Rattle.model.specs.Keys.{begins}
use Rattle.model.specs.Words.{Columns, right, columns}
use Rattle.model.specs.Rows.{Program, program, size, tag, num, arity, Item, constructor, global, expression, step, declarations, whole}
use Rattle.model.specs.Letters.{head_count}
use Rattle.model.specs.Tables.{Tables, tables}
use Rattle.model.specs.Bads.{bad_rows, letter_arity_of, numbers}
use Rattle.model.specs.Counters.{letters_allowed, any_argument, letter_keys, letter_count_of, counter_count}
use Rattle.model.proofs.Logic.{test, and_right, or_cases, both}
use Rattle.model.specs.Index.{all}
use Rattle.model.proofs.Index.{all_end, all_hit, all_miss, all_elim}
use Rattle.model.proofs.Keys.{getD_there, ascends_at}
use Rattle.model.proofs.LetterSums.{Lows, Proper, key_proper}
use Rattle.model.proofs.Numbering.Letters.{keys_ascend, key_from}
use Rattle.model.proofs.Numbering.Choices.{letter_from}
use Rattle.model.proofs.Numbering.Counters.{tag_inside}
use Rattle.model.proofs.Parse.Grammar.{fits_some}
use Rattle.model.proofs.Parse.Reached.{whole_stands}
use Rattle.model.proofs.Parse.Spans.{Spans}
use Rattle.model.proofs.Parse.Lengths.{built_below}
use Rattle.system_letters.proofs.Mailed.{key_told}
use Rattle.values.proofs.Operands.{leaves}
use Rattle.lists.specs.Ready.{Ready}
use Rattle.lists.proofs.Facts.{rows_fit}
use Rattle.system_letters.specs.Letters.{class_at, letter_at_of, letters_before, letter_width_of, ClassLetters, digit_set, allowed_set, LetterSets}
use Rattle.system_letters.proofs.Tables.{head_low, built_low}
use Rattle.system_letters.proofs.Classes.{class_here, before_most, before_rises}
use Rattle.system_items.specs.Stretches.{SetsFilled, digits_are, is_named_of, names_letters_of}
use Rattle.system_items.proofs.Begun.{begins_between, digits_begin, begin_digits}

-- a head behind the number of a letter is low
lows_at : (p : Program) (hs : List ℕ) → Lows p hs → (j : ℕ) → get_or hs j 0 < head_count p
unfolding head_count
lows_at p [] l j = let z : ◌≡◌ {A = ℕ} (get_or [] j 0) 0 = get_or-eq_default [] 0 {n = j} (omega arith) in omega arith
lows_at p (x ∷ hs) l zero = l.0
lows_at p (x ∷ hs) l (suc j) = lows_at p hs l.1 j

module _ {ws : List ℕ} {s : Sizes} (h : Ready ws s) where
  abbrev p : Program
  p = program ws s

  abbrev t : Tables
  t = tables ws s

  abbrev rows : Columns
  rows = bad_rows ws s

  -- a constructor has at most 8 arguments
  constructor_leaf : (x m : ℕ) (more : List Item) → step p constructor x m ≡ some more → (more ≡ []) × (m ≤ 8)
  unfolding step
  constructor_leaf x m more e =
      let (passes, same) = fits_some (eqb x 10 && leb m 8) [] more e in
      (sym same, leb-true m 8 (and_right (eqb x 10) (leb m 8) passes))

  arity_low : (k : ℕ) → k < p.constructors → arity p k ≤ 8
  unfolding arity whole declarations
  arity_low k l =
      let whole_spans : Spans p ((replicate p.constructors constructor ++ replicate p.functions global) ++ expression ∷ []) 0 (size p) = (whole_stands (rows_fit h)).spans in
      let z : 0 + k ≡ k = omega arith in
      rw z at ((leaves p constructor (λ m. m ≤ 8) constructor_leaf p.constructors 0 (rw append_assoc at whole_spans)).1 k l)

  pub heads_few : (k : ℕ) → letter_arity_of p k ≤ 8
  unfolding letter_arity_of
  heads_few k = test (ltb k p.constructors)
      (λ e. rw (e, letter_arity_of) (arity_low k (ltb-true k p.constructors e)))
      (λ e. rw (e, letter_arity_of) (omega arith))

  pub letter_proper : (y : ℕ) → y < letter_count_of p t → Proper p (letter_at_of p t y)
  unfolding counter_count
  letter_proper y l =
      let z : t.states.size + y - t.states.size ≡ y = omega arith in
      key_proper p t (built_low h) (t.states.size + y) (class_at p t y) (letter_at_of p t y) (omega arith) (omega arith) (rw z (key_told p t y l))

  number_low : (y : ℕ) → y < letter_count_of p t → get_or (letter_at_of p t y) 0 0 < head_count p
  unfolding letter_count_of letters_allowed
  number_low y l =
      let a = key_from p t (get_or (letter_keys p t) y []) (getD_there (letter_keys p t) y l) in
      let same : a.class ∷ a.letter ≡ class_at p t y ∷ letter_at_of p t y = a.same ∙ key_told p t y l in
      let letter : a.letter ≡ letter_at_of p t y = cc in
      let f = letter_from p t any_argument a.value a.letter a.allows in
      let z = ap (λ k. get_or k 0 0) (f.is ∙ letter) in
      omega (arith, head_low h a.value)

  pub digit_low : (y i : ℕ) → y < letter_count_of p t → get_or (letter_at_of p t y) i 0 < head_count p
  digit_low y zero l = number_low y l
  digit_low y (suc i) l =
      let q = letter_proper y l in
      let z : get_or (letter_at_of p t y) (suc i) 0 ≡ get_or q.heads i 0 = ap (λ k. get_or k (suc i) 0) (sym q.is) in
      omega (arith, lows_at p q.heads q.lows i)

  -- a digit of letter y, by the set of letters that have it
  module _ {letters : List ℕ} {w : ℕ} (g : SetsFilled ws s letters w) (i r y n heads : ℕ) (q : (i < 9) × (y < letter_count_of p t)) (number : n ≡ right rows r) (all-heads : heads ≡ s.constructors + 2) where
    pub digit_high : heads ≤ n → false ≡ eqb (get_or (letter_at_of p t y) i 0) (right rows r)
    unfolding program head_count
    digit_high high = sym (ne_eqb (get_or (letter_at_of p t y) i 0) (right rows r) (λ e. omega (arith, digit_low y i q.1)))

    pub set_small : i * heads ≤ 528
    set_small = mul-le-mul {n₁ = i} {m₁ = heads} {n₂ = 8} {m₂ = 66} (omega (arith, q.0)) (omega (arith, h.limits.constructors))

    module _ (low : n < heads) where
      inside : digit_set p i n < allowed_set p t.mail.size
      unfolding digit_set allowed_set program head_count
      inside =
          let most = mul-le-mul {n₁ = i} {m₁ = s.constructors + 2} {n₂ = 8} {m₂ = s.constructors + 2} (omega (arith, q.0)) (omega arith) in
          omega arith

      pub digit_room : (y < 64 * w) × Row letters w (i * heads + n)
      unfolding letter_width_of program head_count digit_set
      digit_room = (omega (arith, g.width, q.1), rw (g.width, all-heads) (g.letter_sets_of.room (digit_set p i n) inside))

      pub digit_told : (b : Bool) → b ≡ member letters w (i * heads + n) y → b ≡ eqb (get_or (letter_at_of p t y) i 0) (right rows r)
      unfolding program head_count digit_set
      digit_told b e = e ∙ (rw (g.width, all-heads) (g.letter_sets_of.digit i n y q.0 (omega arith) q.1) ∙ ap (eqb (get_or (letter_at_of p t y) i 0)) number)

  -- the letters of class c, as the table says where they begin and end
  pub class_span : (starts : List ℕ) → ClassLetters p t starts → (c low high : ℕ) → c ≤ s.rows → low ≡ get_or starts c 0 → high ≡ get_or starts (c + 1) 0 → (low ≡ letters_before p t c) × (high ≡ letters_before p t (c + 1)) × (low ≤ high) × (high ≤ letter_count_of p t)
  unfolding program columns
  class_span starts g c low high l a b =
      let u : low ≡ letters_before p t c = a ∙ g.start c (omega arith) in
      let v : high ≡ letters_before p t (c + 1) = b ∙ g.start (c + 1) (omega arith) in
      (u, v, omega (arith, before_rises p t c), omega (arith, before_most p t (c + 1)))

  -- whether rows name letters
  module _ (from to : ℕ) where
    pub alone_told : to ≡ from + 1 → eqb to (from + 1) ≡ names_letters_of p rows from to
    unfolding names_letters_of
    alone_told e = rw (eq-eqb to (from + 1) e)

    pub heads_told : (heads : ℕ) → (to ≡ from + 1 → ⊥) → heads ≡ letter_arity_of p (right rows from) → eqb to (from + 1 + heads) ≡ names_letters_of p rows from to
    unfolding names_letters_of
    heads_told heads n e = rw (ne_eqb to (from + 1) n, e)

    module _ (names : names_letters_of p rows from to ≡ true) where
      pub rows_few : (from + 1 ≤ to) × (to ≤ from + 9)
      unfolding names_letters_of
      rows_few =
          ⊎_elim (λ e. let z = eqb-true to (from + 1) e in (omega arith, omega arith))
          (λ e. let z = eqb-true to (from + 1 + letter_arity_of p (right rows from)) e in let few = heads_few (right rows from) in (omega arith, omega arith))
          (or_cases (eqb to (from + 1)) (eqb to (from + 1 + letter_arity_of p (right rows from))) names)

      -- a letter that the rows name has a digit for each of them
      long_enough : (y : ℕ) → y < letter_count_of p t → is_named_of p t rows from to y ≡ true → to - from ≤ length (letter_at_of p t y)
      unfolding names_letters_of is_named_of digits_are
      long_enough y l e =
          let q = letter_proper y l in
          let z : from - from ≡ 0 = omega arith in
          let first = eqb-true (get_or (letter_at_of p t y) (from - from) 0) (right rows from) (all_elim from to from (λ i. eqb (get_or (letter_at_of p t y) (i - from) 0) (right rows i)) e (omega arith) (omega (arith, rows_few.0))) in
          let number : q.number ≡ right rows from = ap (λ k. get_or k 0 0) q.is ∙ (rw z at first) in
          let digits : length (letter_at_of p t y) ≡ suc (length q.heads) = sym (ap length q.is) in
          let many : length q.heads ≡ letter_arity_of p (right rows from) = q.many ∙ ap (letter_arity_of p) number in
          ⊎_elim (λ e. let z = eqb-true to (from + 1) e in omega arith)
          (λ e. let z = eqb-true to (from + 1 + letter_arity_of p (right rows from)) e in omega arith)
          (or_cases (eqb to (from + 1)) (eqb to (from + 1 + letter_arity_of p (right rows from))) names)

      pub named_begins : (y : ℕ) → y < letter_count_of p t → is_named_of p t rows from to y ≡ begins (numbers rows from to) (letter_at_of p t y)
      unfolding is_named_of
      named_begins y l =
          let order : from ≤ to = omega (arith, rows_few.0) in
          both _ _ (λ e. digits_begin rows from to order (letter_at_of p t y) (long_enough y l e) e) (λ e. begin_digits rows from to order (letter_at_of p t y) e)

      -- of the letters of a class
      module _ (c : ℕ) where
        pub named_key : (y : ℕ) → letters_before p t c ≤ y → y < letters_before p t (c + 1) → is_named_of p t rows from to y ≡ begins (c ∷ numbers rows from to) (get_or (letter_keys p t) y [])
        unfolding begins
        named_key y lo hi =
            let l : y < letter_count_of p t = omega (arith, before_most p t (c + 1)) in
            rw (key_told p t y l, class_here p t c y lo hi, eq-eqb c c refl) (named_begins y l)

        pub named_together : (i j k : ℕ) → letters_before p t c ≤ i → i < j → j < k → k < letters_before p t (c + 1) → is_named_of p t rows from to i ≡ true → is_named_of p t rows from to k ≡ true → is_named_of p t rows from to j ≡ true
        unfolding letter_count_of
        named_together i j k lo a b hi x y =
            let l : k < letter_count_of p t = omega (arith, before_most p t (c + 1)) in
            named_key j (omega arith) (omega arith) ∙
            begins_between (c ∷ numbers rows from to) _ _ _
            (ascends_at (letter_keys p t) i j (keys_ascend p t) a (omega arith))
            (ascends_at (letter_keys p t) j k (keys_ascend p t) b l)
            (sym (named_key i lo (omega arith)) ∙ x)
            (sym (named_key k (omega arith) hi) ∙ y)

        -- the same where y is named and lies among them
        pub named_span : (low high y : ℕ) → low ≡ letters_before p t c → high ≡ letters_before p t (c + 1) → y < high → is_named_of p t rows from to y ≡ true → (i j : ℕ) → low ≤ i → i < j → j < y → is_named_of p t rows from to i ≡ true → is_named_of p t rows from to j ≡ true
        named_span low high y a b l on i j lo u v x = named_together i j y (omega arith) u v (omega arith) x on

-- the rows one after the other: what is left to be seen of letter y from row r on
module _ (p : Program) (t : Tables) (rows : Columns) (from to y r : ℕ) where
  abbrev digit_here : ℕ → Bool
  digit_here i = eqb (get_or (letter_at_of p t y) (i - from) 0) (right rows i)

  abbrev pub Left : Type 0
  Left = is_named_of p t rows from to y ≡ all r to (λ i. eqb (get_or (letter_at_of p t y) (i - from) 0) (right rows i))

  module _ (so_far : Left) (b : Bool) (told : b ≡ eqb (get_or (letter_at_of p t y) (r - from) 0) (right rows r)) (more : r < to) where
    pub digit_wrong : not b ≡ true → false ≡ is_named_of p t rows from to y
    digit_wrong z = sym (so_far ∙ all_miss r to digit_here more (sym told ∙ not-true b z))

    pub digit_right : not b ≡ false → is_named_of p t rows from to y ≡ all (r + 1) to (λ i. eqb (get_or (letter_at_of p t y) (i - from) 0) (right rows i))
    digit_right z = so_far ∙ all_hit r to digit_here more (sym told ∙ not-false b z)

  pub digits_over : Left → to ≤ r → true ≡ is_named_of p t rows from to y
  digits_over so_far over = sym (so_far ∙ all_end r to digit_here over)

pub digits_start : (p : Program) (t : Tables) (rows : Columns) (from to y : ℕ) → Left p t rows from to y from
unfolding is_named_of digits_are
digits_start p t rows from to y = refl
