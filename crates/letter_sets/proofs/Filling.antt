-- The table of sets, letter by letter and mail entry by mail entry.
use Prim.Native.Nat.{ℕ, ◌+◌, ◌*◌, ◌≤◌, ◌<◌}
use native.Mathlib.Nat.{add-mul, mul-le-mul_right}
use native.Mathlib.Omega.{arith}
use mathlib.Core.Path.{◌≡◌, sym, ◌∙◌, ap}
use mathlib.Core.Bool.{Bool, true, false, ◌&&◌}
use mathlib.Core.List.{List}
use lib.ListN.{length, get_or}
use lib.Dec.{eqb}
use Rattle.bits.specs.Bits.{Row, Put}
use Rattle.model.specs.declared.Sizes.{Sizes}
use Rattle.model.specs.Words.{left, right, columns}
use Rattle.model.specs.Rows.{Program, program}
use Rattle.model.specs.Letters.{head_count}
use Rattle.model.specs.Tables.{Tables, tables, entries}
use Rattle.model.specs.Counters.{letter_count_of}
use Rattle.lists.specs.declared.Span.{Span}
use Rattle.lists.specs.Lists.{mail_span, listed}
use Rattle.lists.specs.Ready.{Ready}
use Rattle.lists.proofs.Facts.{mail_listed}
use Rattle.system_letters.specs.Letters.{ClassLetters, letters_before, letter_width_of, allowed_set}
use Rattle.system_letters.proofs.Tables.{class_low}
use Rattle.letter_codes.specs.Codes.{Coded}
use Rattle.letter_sets.specs.Sets.{digit_of, code_allowed, PutAll, DigitRows, in_digits, all_digits, is_allowed, in_allowed, all_allowed, LetterRoom}
use Rattle.letter_sets.proofs.Putting.{put_none, put_one, PutUpto, upto_next}
use Rattle.system_letters.proofs.Classes.{before_most, before_rises}
use Rattle.letter_sets.proofs.Allowed.{letter_low, coded_digit}

-- every letter has its bit
pub width_above : (p : Program) (t : Tables) (w y : ℕ) → w ≡ letter_width_of p t → y < letter_count_of p t → y < 64 * w
unfolding letter_width_of
width_above p t w y e l = omega arith

-- the sets of digits stand before those of mail entries
pub digit_before : (i heads d : ℕ) → i < 9 → d < heads → i * heads + d < 9 * heads
digit_before i heads d l b =
    let z : (i + 1) * heads ≤ 9 * heads = mul-le-mul_right heads (omega arith) in
    omega (arith, add-mul i 1 heads)

-- what the loop over the letters has put of letter y
abbrev pub digit_puts : ℕ → List ℕ → ℕ → ℕ → ℕ → Bool
digit_puts heads codes y n v = in_digits heads (get_or codes y 0) y n v

pub digits_turn : (w heads y code : ℕ) (codes u x x' : List ℕ) → PutUpto w (digit_puts heads codes) 0 y u x → code ≡ get_or codes y 0 → PutAll w (in_digits heads code y) x x' → PutUpto w (digit_puts heads codes) 0 (y + 1) u x'
digits_turn w heads y code codes u x x' a ec b = upto_next w (digit_puts heads codes) 0 y u x x' (omega arith) a (rw ec at b)

-- the class of a mail entry, read from the span of the list
pub mail_class : (ws : List ℕ) (s : Sizes) (l : Span) (j c : ℕ) → c ≡ left (listed ws l) j → l ≡ mail_span s → c ≡ left (tables ws s).mail j
mail_class ws s l j c same e = same ∙ rw (e, mail_listed ws s)

module _ {ws : List ℕ} {s : Sizes} (h : Ready ws s) where
  abbrev p : Program
  p = program ws s

  abbrev t : Tables
  t = tables ws s

  pub digit_rows : (w heads y code n : ℕ) (codes u x : List ℕ) → w ≡ letter_width_of p t → heads ≡ s.constructors + 2 → y < n → n ≡ letter_count_of p t → Coded p t codes → code ≡ get_or codes y 0 → LetterRoom p t u → length x ≡ length u → DigitRows heads w code y x
  unfolding head_count program allowed_set
  digit_rows w heads y code n codes u x ew eh l en k ec r same =
      let less : y < letter_count_of p t = omega arith in
      record {
        few = omega (arith, h.limits.constructors);
        low = width_above p t w y ew less;
        row = λ i b.
            let e = ap (λ c. digit_of c i) ec ∙ coded_digit h codes k y less i (omega arith) in
            let d : digit_of code i < heads = omega (arith, letter_low h y less i) in
            let z = digit_before i heads (digit_of code i) b d in
            record { room = rw (ew, same) (r.row (i * heads + digit_of code i) (rw (← eh) (omega arith))).room };
      }

  pub digits_filled : (w heads y n : ℕ) (codes u x : List ℕ) → w ≡ letter_width_of p t → heads ≡ s.constructors + 2 → PutUpto w (digit_puts heads codes) 0 y u x → y ≡ n → n ≡ letter_count_of p t → PutAll (letter_width_of p t) (all_digits p t codes) u x
  unfolding all_digits head_count program
  digits_filled w heads y n codes u x ew eh a ey en = rw (ew, eh, ey, en) at a

  -- the letters of an entry's class, as the code reads them
  pub class_inside : (j c : ℕ) (starts : List ℕ) → ClassLetters p t starts → j < s.mails → c ≡ left t.mail j → (c + 1 < length starts) × (c ≤ s.rows)
  unfolding program columns tables entries
  class_inside j c starts g l e = let z = class_low h j l in (omega (arith, g.room), omega arith)

  pub record ClassRange (j from to : ℕ) : Type 0 where
    pub first : from ≡ letters_before p t (left t.mail j)
    pub past : to ≡ letters_before p t (left t.mail j + 1)
    pub order : from ≤ to
    pub most : to ≤ letter_count_of p t

  pub class_words : (j c from to : ℕ) (starts : List ℕ) → ClassLetters p t starts → j < s.mails → c ≡ left t.mail j → from ≡ get_or starts c 0 → to ≡ get_or starts (c + 1) 0 → ClassRange j from to
  unfolding program columns tables entries
  class_words j c from to starts g l ec ef et =
      let z = class_low h j l in
      let a = ef ∙ (g.start c (omega arith) ∙ ap (letters_before p t) ec) in
      let b = et ∙ (g.start (c + 1) (omega arith) ∙ ap (λ k. letters_before p t (k + 1)) ec) in
      record {
        first = a;
        past = b;
        order = omega (arith, before_rises p t (left t.mail j));
        most = omega (arith, before_most p t (left t.mail j + 1));
      }

  pub allowed_row : (w j y to from set : ℕ) (u x : List ℕ) → w ≡ letter_width_of p t → set ≡ 9 * (s.constructors + 2) + j → j < s.mails → LetterRoom p t u → length x ≡ length u → ClassRange j from to → y < to → (y < 64 * w) × Row x w set
  unfolding allowed_set head_count program tables entries columns
  allowed_row w j y to from set u x ew es l r same range b = (
    width_above p t w y ew (omega (arith, range.most)),
    record { room = rw (ew, same) (r.row set (omega arith)).room },
  )

  module _ (names codes : List ℕ) (j w from : ℕ) where
    pub allowed_put : (y v code set : ℕ) (b : Bool) (u x x' : List ℕ) → PutUpto w (is_allowed p t names codes j) from y u x → from ≤ y → v ≡ right t.mail j → code ≡ get_or codes y 0 → set ≡ 9 * (s.constructors + 2) + j → b ≡ code_allowed p names v code → b ≡ true → Put w set y x x' → PutUpto w (is_allowed p t names codes j) from (y + 1) u x'
    unfolding is_allowed allowed_set head_count program
    allowed_put y v code set b u x x' a l ev ec es eb z put =
        let yes : code_allowed p names (right t.mail j) (get_or codes y 0) ≡ true = sym (eb ∙ (ap (λ k. code_allowed p names k code) ev ∙ ap (code_allowed p names (right t.mail j)) ec)) ∙ z in
        upto_next w (is_allowed p t names codes j) from y u x x' l a
        (put_one w set y (is_allowed p t names codes j y) x x'
        (λ m q. ap (λ k. k && (eqb m (9 * (s.constructors + 2) + j) && eqb q y)) yes ∙ ap (λ k. eqb m k && eqb q y) (sym es)) put)

    pub allowed_left : (y v code : ℕ) (b : Bool) (u x : List ℕ) → PutUpto w (is_allowed p t names codes j) from y u x → from ≤ y → v ≡ right t.mail j → code ≡ get_or codes y 0 → b ≡ code_allowed p names v code → b ≡ false → PutUpto w (is_allowed p t names codes j) from (y + 1) u x
    unfolding is_allowed
    allowed_left y v code b u x a l ev ec eb z =
        let none : code_allowed p names (right t.mail j) (get_or codes y 0) ≡ false = sym (eb ∙ (ap (λ k. code_allowed p names k code) ev ∙ ap (code_allowed p names (right t.mail j)) ec)) ∙ z in
        upto_next w (is_allowed p t names codes j) from y u x x l a
        (put_none w (is_allowed p t names codes j y) x (λ m q. ap (λ k. k && (eqb m (allowed_set p j) && eqb q y)) none))

    pub allowed_over : (y to : ℕ) (u x : List ℕ) → w ≡ letter_width_of p t → ClassRange j from to → PutUpto w (is_allowed p t names codes j) from y u x → y ≡ to → PutAll (letter_width_of p t) (in_allowed p t names codes j) u x
    unfolding in_allowed
    allowed_over y to u x ew r a ey = rw (ew, r.first, ey, r.past) at a

  pub allowed_filled : (names codes : List ℕ) (j : ℕ) (u x : List ℕ) → PutUpto (letter_width_of p t) (in_allowed p t names codes) 0 j u x → j ≡ s.mails → PutAll (letter_width_of p t) (all_allowed p t names codes) u x
  unfolding all_allowed tables entries columns
  allowed_filled names codes j u x a e = rw e at a

  -- the room stays
  pub room_still : (f : ℕ → ℕ → Bool) (w : ℕ) (u x : List ℕ) → PutAll w f u x → LetterRoom p t u → LetterRoom p t x
  room_still f w u x a r = record { row = λ n l. record { room = rw a.long (r.row n l).room } }
