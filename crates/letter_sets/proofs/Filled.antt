-- The filled table: which letters each set has.
use Prim.Native.Nat.{ℕ, ◌+◌, ◌*◌, ◌<◌}
use native.Mathlib.Omega.{arith}
use mathlib.Core.Path.{◌≡◌, refl, sym, ◌∙◌, ap, subst}
use mathlib.Core.Bool.{true, ◌&&◌}
use mathlib.Core.Logic.{◌⊎◌, inl, inr, ⊎_elim}
use mathlib.Core.List.{List, Memᴰ}
use lib.ListN.{get_or}
use lib.Dec.{eqb}
use borrow.Author.Tests.{eqb-true, eq-eqb}
use Rattle.bits.specs.Bits.{member}
use Rattle.bits.proofs.Rows.{place}
use Rattle.model.specs.declared.Sizes.{Sizes}
use Rattle.model.specs.Words.{left, right}
use Rattle.model.specs.Rows.{Program, program}
use Rattle.model.specs.Letters.{head_count}
use Rattle.model.specs.Tables.{Tables, tables}
use Rattle.model.specs.Counters.{letters_allowed, letter_count_of}
use Rattle.model.proofs.Logic.{true_false, and_left, and_right, and_intro, or_cases, or_left, or_right, both}
use Rattle.model.proofs.Index.{any_elim, any_intro}
use Rattle.lists.specs.Ready.{Ready}
use Rattle.system_letters.specs.Letters.{LetterSets, class_at, letter_at_of, letters_before, letter_width_of, digit_set, allowed_set}
use Rattle.letter_sets.specs.Sets.{LettersKnown, LettersEmpty, digit_of, code_allowed, PutAll, is_digit, in_digits, all_digits, is_allowed, in_allowed, all_allowed}
use Rattle.system_letters.proofs.Classes.{class_there, class_here}
use Rattle.letter_sets.proofs.Allowed.{letter_low, coded_digit, allowed_in, in_allowed as allowed-by}
use Rattle.letter_sets.proofs.Filling.{width_above, digit_before, room_still}

module _ {ws : List ℕ} {s : Sizes} {names starts codes : List ℕ} (k : LettersKnown ws s names starts codes) where
  abbrev h : Ready ws s
  h = k.heads.ready

  abbrev p : Program
  p = program ws s

  abbrev t : Tables
  t = tables ws s

  -- a set to which a letter was added for a digit is that of the digit
  pub record DigitOf (n v : ℕ) : Type 0 where
    pub at : ℕ
    pub low : at < 9
    pub listed : v < letter_count_of p t
    pub same : n ≡ at * head_count p + get_or (letter_at_of p t v) at 0

  digit_from : (n v : ℕ) → all_digits p t codes n v ≡ true → DigitOf n v
  unfolding all_digits in_digits is_digit
  digit_from n v e =
      let (y, w, e1) = any_elim 0 (letter_count_of p t) (λ y. in_digits (head_count p) (get_or codes y 0) y n v) e in
      let (i, b, e2) = any_elim 0 9 (λ i. is_digit (head_count p) (get_or codes y 0) y i n v) e1 in
      let d = digit_of (get_or codes y 0) i in
      let n-is = eqb-true n (i * head_count p + d) (and_left (eqb n (i * head_count p + d)) (eqb v y) e2) in
      let v-is = eqb-true v y (and_right (eqb n (i * head_count p + d)) (eqb v y) e2) in
      record {
        at = i;
        low = b.1;
        listed = omega (arith, w.1);
        same = n-is ∙ (ap (λ c. i * head_count p + c) (coded_digit h codes k.coded y w.1 i (omega (arith, b.1))) ∙ ap (λ c. i * head_count p + get_or (letter_at_of p t c) i 0) (sym v-is));
      }

  digit_into : (i y : ℕ) → i < 9 → y < letter_count_of p t → all_digits p t codes (i * head_count p + get_or (letter_at_of p t y) i 0) y ≡ true
  unfolding all_digits in_digits is_digit
  digit_into i y b l =
      let n = i * head_count p + get_or (letter_at_of p t y) i 0 in
      any_intro 0 (letter_count_of p t) y (λ z. in_digits (head_count p) (get_or codes z 0) z n y) (omega arith) l
      (any_intro 0 9 i (λ z. is_digit (head_count p) (get_or codes y 0) y z n y) (omega arith) b
      (and_intro (eqb n (i * head_count p + digit_of (get_or codes y 0) i)) (eqb y y)
      (eq-eqb n (i * head_count p + digit_of (get_or codes y 0) i) (ap (λ c. i * head_count p + c) (sym (coded_digit h codes k.coded y l i (omega arith)))))
      (eq-eqb y y refl)))

  -- and one to which it was added for a mail entry is that of the entry
  pub record AllowedOf (n v : ℕ) : Type 0 where
    pub entry : ℕ
    pub set : n ≡ allowed_set p entry
    pub class : class_at p t v ≡ left t.mail entry
    pub allows : Memᴰ (letter_at_of p t v) (letters_allowed p t (right t.mail entry))

  allowed_from : (n v : ℕ) → v < letter_count_of p t → all_allowed p t names codes n v ≡ true → AllowedOf n v
  unfolding all_allowed in_allowed is_allowed
  allowed_from n v l e =
      let (j, w, e1) = any_elim 0 t.mail.size (λ j. in_allowed p t names codes j n v) e in
      let (y, b, e2) = any_elim (letters_before p t (left t.mail j)) (letters_before p t (left t.mail j + 1)) (λ y. is_allowed p t names codes j y n v) e1 in
      let yes = code_allowed p names (right t.mail j) (get_or codes y 0) in
      let rest = and_right yes (eqb n (allowed_set p j) && eqb v y) e2 in
      let n-is = eqb-true n (allowed_set p j) (and_left (eqb n (allowed_set p j)) (eqb v y) rest) in
      let v-is = eqb-true v y (and_right (eqb n (allowed_set p j)) (eqb v y) rest) in
      let less : y < letter_count_of p t = omega arith in
      record {
        entry = j;
        set = n-is;
        class = ap (class_at p t) v-is ∙ class_here p t (left t.mail j) y b.0 b.1;
        allows = subst (λ z. Memᴰ (letter_at_of p t z) (letters_allowed p t (right t.mail j))) (sym v-is) (allowed_in h names k.heads codes k.coded y less (right t.mail j) (and_left yes (eqb n (allowed_set p j) && eqb v y) e2));
      }

  allowed_into : (j y : ℕ) → j < t.mail.size → y < letter_count_of p t → class_at p t y ≡ left t.mail j → Memᴰ (letter_at_of p t y) (letters_allowed p t (right t.mail j)) → all_allowed p t names codes (allowed_set p j) y ≡ true
  unfolding all_allowed in_allowed is_allowed
  allowed_into j y b l c m =
      let n = allowed_set p j in
      let (from, to) = class_there p t (left t.mail j) y l c in
      any_intro 0 t.mail.size j (λ z. in_allowed p t names codes z n y) (omega arith) b
      (any_intro (letters_before p t (left t.mail j)) (letters_before p t (left t.mail j + 1)) y (λ z. is_allowed p t names codes j z n y) from to
      (and_intro (code_allowed p names (right t.mail j) (get_or codes y 0)) (eqb n (allowed_set p j) && eqb y y)
      (allowed-by h names k.heads codes k.coded y l (right t.mail j) m)
      (and_intro (eqb n (allowed_set p j)) (eqb y y) (eq-eqb n n refl) (eq-eqb y y refl))))

  -- no set is of both kinds, or of two digits or heads
  apart : (n v : ℕ) → DigitOf n v → n < 9 * head_count p
  apart n v d = omega (arith, digit_before d.at (head_count p) (get_or (letter_at_of p t v) d.at 0) d.low (letter_low h v d.listed d.at), d.same)

  module _ (u x x' : List ℕ) (before : LettersEmpty p t u) (a : PutAll (letter_width_of p t) (all_digits p t codes) u x) (b : PutAll (letter_width_of p t) (all_allowed p t names codes) x x') where
    put_either : (n y : ℕ) → y < letter_count_of p t → member x' (letter_width_of p t) n y ≡ true → DigitOf n y ⊎ AllowedOf n y
    put_either n y l e =
        let w = width_above p t (letter_width_of p t) y refl l in
        ⊎_elim
        (λ z. ⊎_elim (λ q. true_false q (before.empty.none n y)) (λ q. inl (digit_from n y q)) (or_cases (member u (letter_width_of p t) n y) (all_digits p t codes n y) (sym (a.members n y w) ∙ z)))
        (λ z. inr (allowed_from n y l z))
        (or_cases (member x (letter_width_of p t) n y) (all_allowed p t names codes n y) (sym (b.members n y w) ∙ e))

    in_first : (n y : ℕ) → y < letter_count_of p t → all_digits p t codes n y ≡ true → member x' (letter_width_of p t) n y ≡ true
    in_first n y l e =
        let w = width_above p t (letter_width_of p t) y refl l in
        b.members n y w ∙ or_left (member x (letter_width_of p t) n y) (all_allowed p t names codes n y)
        (a.members n y w ∙ or_right (member u (letter_width_of p t) n y) (all_digits p t codes n y) e)

    in_second : (n y : ℕ) → y < letter_count_of p t → all_allowed p t names codes n y ≡ true → member x' (letter_width_of p t) n y ≡ true
    in_second n y l e =
        b.members n y (width_above p t (letter_width_of p t) y refl l) ∙ or_right (member x (letter_width_of p t) n y) (all_allowed p t names codes n y) e

    pub letters_filled : LetterSets p t x'
    unfolding digit_set allowed_set
    letters_filled = record {
      room = (room_still h _ _ _ _ b (room_still h _ _ _ _ a before.room)).row;
      digit = λ i d y b low l. both (member x' (letter_width_of p t) (i * head_count p + d) y) (eqb (get_or (letter_at_of p t y) i 0) d)
          (λ e. ⊎_elim
          (λ z.
          let (same, head) = place (head_count p) z.at i (get_or (letter_at_of p t y) z.at 0) d (letter_low h y l z.at) low z.same in
          eq-eqb (get_or (letter_at_of p t y) i 0) d (ap (λ q. get_or (letter_at_of p t y) q 0) same ∙ sym head))
          (λ z. absurd (omega (arith, digit_before i (head_count p) d b low, z.set)))
          (put_either (i * head_count p + d) y l e))
          (λ e. rw (eqb-true (get_or (letter_at_of p t y) i 0) d e) at (in_first (i * head_count p + get_or (letter_at_of p t y) i 0) y l (digit_into i y b l)));
      allowed = λ j y b l. (
        λ e. ⊎_elim
            (λ z. absurd (omega (arith, apart (9 * head_count p + j) y z)))
            (λ z. let same : z.entry ≡ j = omega (arith, z.set) in (rw same at z.class, rw same at z.allows))
            (put_either (9 * head_count p + j) y l e),
        λ m. in_second (9 * head_count p + j) y l (allowed_into j y b l m.0 m.1),
      );
    }
