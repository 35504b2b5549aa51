-- Tables made once from the lists: the heads of each name's values, where the letters of each class begin, and sets of
-- letters.
use Rattle.std.specs.Prelude.{ℕ, ◌+◌, ◌*◌, ◌/◌, ◌≤◌, ◌<◌, ◌≡◌, true, ◌↔◌, length, get_or, drop, eqb, ltb}
use mathlib.Core.List.{List, [], Memᴰ}
use Rattle.bits.specs.Bits.{member, Row}
use Rattle.model.specs.Limits.{max_arity}
use Rattle.model.specs.Index.{count}
use Rattle.model.specs.Words.{left, right}
use Rattle.model.specs.Rows.{Program, size}
use Rattle.model.specs.Letters.{Letter, head_count, row_head_of}
use Rattle.model.specs.Tables.{Tables, some_of}
use Rattle.model.specs.Counters.{letters_allowed, letter_keys, letter_count_of}

-- set n, of two words, has the heads of the values of the name n
pub record NameHeads (p : Program) (t : Tables) (names : List ℕ) : Type 0 where
  pub room : p.names * 2 ≤ length names
  pub has : (n h : ℕ) → n < p.names → h < head_count p →
      member names 2 n h ≡ some_of t.flow n (λ v. eqb (row_head_of p v) h)

-- Letter number y of those that mail allows, in their order; its counter is S + y. Its key is its class, then itself.
unfoldable pub class_at : Program → Tables → ℕ → ℕ
class_at p t y = get_or (get_or (letter_keys p t) y []) 0 0

unfoldable pub letter_at_of : Program → Tables → ℕ → Letter
letter_at_of p t y = drop 1 (get_or (letter_keys p t) y [])

-- so many letters are of a class below c
unfoldable pub letters_before : Program → Tables → ℕ → ℕ
letters_before p t c = count 0 (letter_count_of p t) (λ y. ltb (class_at p t y) c)

-- word c is the number of the first letter that is of class c or of one behind it
pub record ClassLetters (p : Program) (t : Tables) (starts : List ℕ) : Type 0 where
  pub room : size p + 1 < length starts
  pub start : (c : ℕ) → c ≤ size p + 1 → get_or starts c 0 ≡ letters_before p t c

-- a set of letters has so many words: a bit for each letter
unfoldable pub letter_width_of : Program → Tables → ℕ
letter_width_of p t = letter_count_of p t / 64 + 1

-- Digit 0 of a letter is its number, digit i + 1 the head of its argument i; there are so many.
abbrev pub digits : ℕ
digits = max_arity + 1

-- the number of the set of letters whose digit i is h
unfoldable pub digit_set : Program → ℕ → ℕ → ℕ
digit_set p i h = i * head_count p + h

-- the number of the set of letters that the value of mail entry j allows: behind those of all digits
unfoldable pub allowed_set : Program → ℕ → ℕ
allowed_set p j = digits * head_count p + j

-- the sets of letters: by what a digit is, and by mail entry
pub record LetterSets (p : Program) (t : Tables) (letters : List ℕ) : Type 0 where
  pub room : (n : ℕ) → n < allowed_set p t.mail.size → Row letters (letter_width_of p t) n
  pub digit : (i h y : ℕ) → i < digits → h < head_count p → y < letter_count_of p t →
      member letters (letter_width_of p t) (digit_set p i h) y ≡ eqb (get_or (letter_at_of p t y) i 0) h
  pub allowed : (j y : ℕ) → j < t.mail.size → y < letter_count_of p t →
      (member letters (letter_width_of p t) (allowed_set p j) y ≡ true) ↔
      ((class_at p t y ≡ left t.mail j) × Memᴰ (letter_at_of p t y) (letters_allowed p t (right t.mail j)))

-- set 0 has the listed letters of class c
pub record Found (p : Program) (t : Tables) (c : ℕ) (ls : List Letter) (found : List ℕ) : Type 0 where
  pub row : Row found (letter_width_of p t) 0
  pub has : (y : ℕ) → y < letter_count_of p t →
      (member found (letter_width_of p t) 0 y ≡ true) ↔
      ((class_at p t y ≡ c) × Memᴰ (letter_at_of p t y) ls)
