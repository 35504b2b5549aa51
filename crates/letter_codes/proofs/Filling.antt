-- How the letters are listed, class after class.
use Prim.Native.Nat.{ℕ, ◌+◌, ◌≤◌, ◌<◌}
use native.Mathlib.Decide.{ℕ_discrete, dec_lt}
use native.Mathlib.Omega.{arith}
use mathlib.Core.Path.{◌≡◌, refl, sym, ◌∙◌, ap}
use mathlib.Core.Bool.{true}
use mathlib.Core.List.{List, [], ◌∷◌}
use mathlib.Core.Logic.{◌⊎◌, ⊎_elim}
use lib.ListN.{length, get_or, set, length-set}
use lib.Seq.{get_or-set_same, get_or-set_other}
use Rattle.model.specs.declared.Sizes.{Sizes}
use Rattle.model.specs.Limits.{max_mails}
use Rattle.model.specs.Index.{first}
use Rattle.model.specs.Words.{left, right, columns}
use Rattle.model.specs.Rows.{Program, program, size}
use Rattle.model.specs.Tables.{Tables, tables, entries}
use Rattle.model.specs.Keys.{below}
use Rattle.model.specs.Counters.{letter_count_of}
use Rattle.model.proofs.Keys.{below_iff}
use Rattle.lists.specs.declared.Span.{Span}
use Rattle.lists.specs.Lists.{key_at, span_at, mail_span, listed, range_from, reaches}
use Rattle.lists.specs.Ready.{Ready}
use Rattle.lists.proofs.Facts.{mail_listed, mail_rises}
use Rattle.lists.proofs.Reaching.{reached, behind_place}
use Rattle.lists.proofs.Rising.{place_before, place_upto, begins_before, begins_within, begins_behind}
use Rattle.system_letters.specs.Letters.{letter_at_of, letters_before, ClassLetters}
use Rattle.system_letters.proofs.Tables.{letter_class_low}
use Rattle.system_letters.proofs.Classes.{before_most, before_rises, class_here, class_there}
use Rattle.system_letters.proofs.Mailed.{letter_mailed, letter_numbered, letters_order, before_none, before_all}
use Rattle.ascending.specs.Numbers.{Has, Room, Added}
use Rattle.value_letters.specs.Letters.{letter_code}
use Rattle.letter_codes.specs.Codes.{Coded, capped, AllowedIn}
use Rattle.letter_codes.proofs.Capped.{capped_few, capped_over}
use Rattle.letter_codes.proofs.Order.{code_order}
use Rattle.letter_codes.proofs.Starts.{start_next}
use Rattle.letter_codes.proofs.Same.{Rises, Among, no_more, not_below}

-- The letters of the classes below c are listed, n of them; above the most there are more letters than that.
pub record Filled (p : Program) (t : Tables) (most c n : ℕ) (starts codes : List ℕ) : Type 0 where
  pub upto : n ≤ most + 1
  pub many : n ≤ most → n ≡ letters_before p t c
  pub start : n ≤ most → (k : ℕ) → k < c → get_or starts k 0 ≡ letters_before p t k
  pub code : n ≤ most → (y : ℕ) → y < n → get_or codes y 0 ≡ letter_code (letter_at_of p t y)
  pub over : most < n → most < letter_count_of p t

pub filled_none : (p : Program) (t : Tables) (most : ℕ) (starts codes : List ℕ) → Filled p t most 0 0 starts codes
filled_none p t most starts codes =
    record {
      upto = omega arith;
      many = λ l. sym (before_none p t);
      start = λ l k b. absurd (omega arith);
      code = λ l y b. absurd (omega arith);
      over = λ l. absurd (omega arith);
    }

pub filled_room : {p : Program} {t : Tables} {most c n : ℕ} {starts codes : List ℕ} → Filled p t most c n starts codes → most ≤ 1024 → most < length codes → Room most n n codes
filled_room f l room =
    record {
      limit = l;
      long = room;
      begun = omega arith;
      upto = f.upto;
      rising = record { order = λ i j a b c. absurd (omega arith) };
    }

-- no entry is below the first numbers
none_below : (a b d : ℕ) → below (a ∷ b ∷ d ∷ []) (0 ∷ 0 ∷ 0 ∷ []) ≡ true → ⊥
none_below a b d e =
    ⊎_elim (λ (z : a < 0). omega arith) (λ z. ⊎_elim (λ (y : b < 0). omega arith) (λ y. ⊎_elim (λ (x : d < 0). omega arith) (λ x. x.1) y.1) z.1) ((below_iff (a ∷ b ∷ d ∷ []) (0 ∷ 0 ∷ 0 ∷ [])).0 e)

module _ {ws : List ℕ} {s : Sizes} (h : Ready ws s) where
  abbrev p : Program
  p = program ws s

  abbrev t : Tables
  t = tables ws s

  -- the numbers of the letters of class c rise
  codes_rise : (c : ℕ) → Rises (letters_before p t c) (letters_before p t (c + 1)) (λ y. letter_code (letter_at_of p t y))
  codes_rise c i j a l b =
      let x = letter_mailed p t i (omega (arith, before_most p t (c + 1))) in
      let y = letter_mailed p t j (omega (arith, before_most p t (c + 1))) in
      ⊎_elim (λ z. absurd (omega (arith, class_here p t c i a (omega arith), class_here p t c j (omega arith) b)))
      (λ z. code_order h (right t.mail x.entry) (right t.mail y.entry) (letter_at_of p t i) (letter_at_of p t j) x.allows y.allows z.1)
      (letters_order p t i j l (omega (arith, before_most p t (c + 1))))

  module _ (c : ℕ) {most e to n m : ℕ} {codes new : List ℕ} (from-e : e ≡ range_from t.mail c) (to-e : to ≡ range_from t.mail (c + 1)) (d : Added (AllowedIn p t e to) most n n codes m new) where
    module _ (at : n ≡ letters_before p t c) where
      found : Among n m (λ k. get_or new k 0) (letters_before p t (c + 1)) (λ y. letter_code (letter_at_of p t y))
      unfolding range_from
      found k lo hi =
          ⊎_elim (λ (z : Has n n codes (get_or new k 0)). absurd (omega (arith, z.behind, z.below)))
          (λ z.
          let j = z.entry in
          let b : j < t.mail.size = omega (arith, z.below, place_upto t.mail [] ((c + 1) ∷ 0 ∷ 0 ∷ [])) in
          let class : left t.mail j ≡ c = begins_within t.mail [] c (mail_rises h) j (omega (arith, z.behind)) (omega (arith, z.below)) in
          let (y, (l, (same, letter))) = letter_numbered p t j z.allowed.letter b z.allowed.allows in
          let (x, w) = class_there p t c y l (same ∙ class) in
          (y, (omega arith, (w, ap letter_code letter ∙ sym z.allowed.is))))
          (d.sound (get_or new k 0) (record { at = k; behind = lo; below = hi; is = refl }))

      all_found : m ≤ most → Among n (letters_before p t (c + 1)) (λ y. letter_code (letter_at_of p t y)) m (λ k. get_or new k 0)
      unfolding range_from
      all_found few y lo hi =
          let a = letter_mailed p t y (omega (arith, before_most p t (c + 1))) in
          let class = a.class ∙ class_here p t c y (omega arith) hi in
          let j = a.entry in
          let from_j : e ≤ j = elim (dec_lt j e) [ yes z ↦ absurd (begins_before t.mail [] c j (omega arith) class) | no z ↦ omega arith ] in
          let to_j : j < to = elim (dec_lt j to) [ yes z ↦ z | no z ↦ absurd (begins_behind t.mail [] c (mail_rises h) j (omega arith) a.below class) ] in
          let k = d.complete few (letter_code (letter_at_of p t y)) (record {
            entry = j;
            behind = from_j;
            below = to_j;
            allowed = record { letter = letter_at_of p t y; allows = a.allows; is = refl };
          }) in
          (k.at, (k.behind, (k.below, k.is)))

      rise : Rises n (letters_before p t (c + 1)) (λ y. letter_code (letter_at_of p t y))
      rise i j a l b = codes_rise c i j (omega arith) l b

      words_rise : Rises n m (λ k. get_or new k 0)
      words_rise = d.rising.order

      upto_next : m ≤ letters_before p t (c + 1)
      upto_next = no_more n m (letters_before p t (c + 1)) _ _ words_rise rise found (omega (arith, before_rises p t c))

      next_upto : m ≤ most → letters_before p t (c + 1) ≤ m
      next_upto few = no_more n (letters_before p t (c + 1)) m _ _ rise words_rise (all_found few) d.grows

      code_at : m ≤ most → (y : ℕ) → n ≤ y → y < m → get_or new y 0 ≡ letter_code (letter_at_of p t y)
      code_at few y lo hi =
          let a = not_below n m (letters_before p t (c + 1)) _ _ words_rise rise found y lo hi in
          let b = not_below n (letters_before p t (c + 1)) m _ _ rise words_rise (all_found few) y lo (omega (arith, upto_next)) in
          omega arith

    pub filled_next : {starts : List ℕ} → Filled p t most c n starts codes → c < length starts → Filled p t most (c + 1) m (set starts c n) new
    filled_next {starts} f room =
        record {
          upto = d.upto;
          many = λ l. let a = f.many (below l) in omega (arith, upto_next a, next_upto a l);
          start = λ l k b. elim (ℕ_discrete k c) [
            | yes z ↦
                ap (λ i. get_or (set starts c n) i 0) z ∙
                (get_or-set_same starts c n 0 room ∙ (f.many (below l) ∙ ap (letters_before p t) (sym z)))
            | no z ↦ get_or-set_other starts c k n 0 z ∙ f.start (below l) k (omega arith)
          ];
          code = λ l y b. elim (dec_lt y n) [
            | yes z ↦ d.below y z ∙ f.code (below l) y z
            | no z ↦ code_at (f.many (below l)) l y (omega arith) b
          ];
          over = λ l. elim (dec_lt most n) [
            | yes z ↦ f.over z
            | no z ↦ omega (arith, upto_next (f.many (omega arith)), before_most p t (c + 1))
          ];
        }
      where
        below : m ≤ most → n ≤ most
        below l = omega (arith, d.grows)

  -- the entries of a class, as the code finds them
  entry_next : (l : Span) (c e : ℕ) → l ≡ mail_span s → e ≡ range_from t.mail c → e ≤ range_from (listed ws l) (c + 1)
  entry_next l c e same at = rw (same, mail_listed ws s) (start_next t.mail (mail_rises h) c e at)

  pub entry_within : (l : Span) (c e : ℕ) → l ≡ mail_span s → e ≡ range_from t.mail c → e ≤ l.size
  unfolding range_from mail_span span_at tables entries columns
  entry_within l c e is at =
      let z : l.size ≡ s.mails = rw is in
      omega (arith, place_upto t.mail [] (c ∷ 0 ∷ 0 ∷ []))

  pub end_told : (l : Span) (c e to : ℕ) → l ≡ mail_span s → e ≡ range_from t.mail c → to ≡ first e l.size (reaches (listed ws l) (c + 1)) → to ≡ range_from t.mail (c + 1)
  unfolding listed columns
  end_told l c e to is at found =
      (reached (listed ws l) (c + 1) e to (entry_within l c e is at) (behind_place (listed ws l) (c + 1) e (entry_next l c e is at)) found).0 ∙
      rw (is, mail_listed ws s)

  pub class_entries : (c e to : ℕ) → e ≡ range_from t.mail c → to ≡ range_from t.mail (c + 1) → (e ≤ to) × (to ≤ s.mails)
  unfolding range_from tables entries columns
  class_entries c e to a b = (omega (arith, start_next t.mail (mail_rises h) c e a), omega (arith, place_upto t.mail [] ((c + 1) ∷ 0 ∷ 0 ∷ [])))

  -- an entry's number is a word
  pub entries_few : (c : ℕ) → range_from t.mail c ≤ max_mails
  unfolding range_from tables entries columns
  entries_few c = omega (arith, place_upto t.mail [] (c ∷ 0 ∷ 0 ∷ []), h.limits.mails)

  pub first_entry : 0 ≡ range_from t.mail 0
  unfolding range_from key_at
  first_entry = elim (dec_lt 0 (range_from t.mail 0)) [
    | yes z ↦ absurd (none_below (left t.mail 0) (right t.mail 0) (get_or [] 0 0) (place_before t.mail [] (0 ∷ 0 ∷ 0 ∷ []) 0 z))
    | no z ↦ omega arith
  ]

  -- all classes are listed
  all_before : letters_before p t (size p + 1) ≡ letter_count_of p t
  all_before = before_all p t (size p + 1) (λ y l. omega (arith, letter_class_low h y l))

  module _ {most c n : ℕ} {starts codes : List ℕ} (f : Filled p t most c n starts codes) (e : c ≡ s.rows + 1) where
    all_told : n ≤ most → n ≡ letter_count_of p t
    unfolding program columns
    all_told l = f.many l ∙ (ap (letters_before p t) e ∙ all_before)

    pub filled_count : n ≡ capped most (letter_count_of p t)
    filled_count = elim (dec_lt most n) [
      | yes z ↦ omega (arith, f.upto, capped_over most (letter_count_of p t) (f.over z))
      | no z ↦ let a = all_told (omega arith) in omega (arith, capped_few most (letter_count_of p t) (omega arith))
    ]

    pub filled_starts : s.rows + 1 < length starts → n ≤ most → ClassLetters p t (set starts (s.rows + 1) n)
    unfolding program columns
    filled_starts room l =
        record {
          room = omega (arith, length-set starts (s.rows + 1) n);
          start = λ k b. elim (ℕ_discrete k (s.rows + 1)) [
            | yes z ↦
                ap (λ i. get_or (set starts (s.rows + 1) n) i 0) z ∙
                (get_or-set_same starts (s.rows + 1) n 0 room ∙ (f.many l ∙ ap (letters_before p t) (e ∙ sym z)))
            | no z ↦ get_or-set_other starts (s.rows + 1) k n 0 z ∙ f.start l k (omega arith)
          ];
        }

    pub filled_codes : most < length codes → n ≤ most → Coded p t codes
    filled_codes room l = let a = all_told l in record { room = omega arith; code = λ y b. f.code l y (omega arith) }
