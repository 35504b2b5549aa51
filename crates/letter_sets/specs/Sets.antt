-- Sets of letters made from the letters' numbers: what is put into which set.
use Rattle.std.specs.Prelude.{ℕ, ◌+◌, ◌*◌, ◌-◌, ◌/◌, ◌%◌, ◌^◌, ◌≤◌, ◌<◌, ◌≡◌, Bool, ◌&&◌, ◌||◌, List, length, get_or, eqb}
use Rattle.bits.specs.Bits.{member, Row}
use Rattle.values.specs.Values.{Empty, Room}
use Rattle.model.specs.declared.Sizes.{Sizes}
use Rattle.model.specs.Limits.{max_arity, max_constructors}
use Rattle.model.specs.Index.{any, all}
use Rattle.model.specs.Words.{left, right}
use Rattle.model.specs.Rows.{Program, program}
use Rattle.model.specs.Letters.{head_count, row_head_of}
use Rattle.model.specs.Tables.{Tables, tables}
use Rattle.model.specs.Closed.{argument}
use Rattle.model.specs.Counters.{letter_count_of}
use Rattle.lists.specs.Ready.{Ready}
use Rattle.system_letters.specs.Letters.{ClassLetters, digits, allowed_set, letter_width_of, letters_before}
use Rattle.value_letters.specs.Letters.{HeadsKnown, value_arity_of}
use Rattle.letter_codes.specs.Codes.{Coded}

-- the checks before refusal 8 found nothing, and the letters are listed: where those of each class begin, and each as a
-- number
pub record LettersListed (ws : List ℕ) (s : Sizes) (letter_at codes : List ℕ) : Type 0 where
  pub ready : Ready ws s
  pub class_letters : ClassLetters (program ws s) (tables ws s) letter_at
  pub coded : Coded (program ws s) (tables ws s) codes

-- ... and the heads of each name's values are known, by which a value allows them
pub record LettersKnown (ws : List ℕ) (s : Sizes) (names letter_at codes : List ℕ) : Type 0 where
  pub heads : HeadsKnown ws s names
  pub class_letters : ClassLetters (program ws s) (tables ws s) letter_at
  pub coded : Coded (program ws s) (tables ws s) codes

-- a value of the tables, with its head and the number of its arguments
pub record ValueTold (p : Program) (v head count : ℕ) : Type 0 where
  pub low : v < 65536
  pub head_is : head ≡ row_head_of p v
  pub count_is : count ≡ value_arity_of p v

-- digit i, from the left, of the number of a letter
unfoldable pub digit_of : ℕ → ℕ → ℕ
digit_of code i = code / 128 ^ (max_arity - i) % 128

-- Does the value v of the tables allow the letter with this number? The letter has v's head, and the name of each
-- argument of v has a value of the head that the letter says. (Letters of one constructor have equally many heads.)
unfoldable pub code_allowed : Program → List ℕ → ℕ → ℕ → Bool
code_allowed p names v code =
    eqb (digit_of code 0) (row_head_of p v) &&
    all 0 (value_arity_of p v) (λ i. member names 2 (argument p v i) (digit_of code (i + 1)))

-- t is u with value v in set n besides, wherever f says so
pub record PutAll (w : ℕ) (f : ℕ → ℕ → Bool) (u t : List ℕ) : Type 0 where
  pub long : length t ≡ length u
  pub members : (n v : ℕ) → v < 64 * w → member t w n v ≡ (member u w n v || f n v)

-- set n is that of digit i of letter y, which has this number, and v is y; there are so many heads
unfoldable pub is_digit : ℕ → ℕ → ℕ → ℕ → ℕ → ℕ → Bool
is_digit heads code y i n v = eqb n (i * heads + digit_of code i) && eqb v y

-- ... of any of its digits
unfoldable pub in_digits : ℕ → ℕ → ℕ → ℕ → ℕ → Bool
in_digits heads code y n v = any 0 digits (λ i. is_digit heads code y i n v)

-- ... of every letter
unfoldable pub all_digits : Program → Tables → List ℕ → ℕ → ℕ → Bool
all_digits p t codes n v = any 0 (letter_count_of p t) (λ y. in_digits (head_count p) (get_or codes y 0) y n v)

-- these sets stand in the table, and have a bit for the letter
pub record DigitRows (heads w code y : ℕ) (letters : List ℕ) : Type 0 where
  pub few : heads ≤ max_constructors + 2
  pub low : y < 64 * w
  pub row : (i : ℕ) → i < digits → Row letters w (i * heads + digit_of code i)

-- set n is that of mail entry j, v is y, and the entry's value allows letter y
unfoldable pub is_allowed : Program → Tables → List ℕ → List ℕ → ℕ → ℕ → ℕ → ℕ → Bool
is_allowed p t names codes j y n v =
    code_allowed p names (right t.mail j) (get_or codes y 0) && (eqb n (allowed_set p j) && eqb v y)

-- ... any letter of the entry's class
unfoldable pub in_allowed : Program → Tables → List ℕ → List ℕ → ℕ → ℕ → ℕ → Bool
in_allowed p t names codes j n v =
    any (letters_before p t (left t.mail j)) (letters_before p t (left t.mail j + 1))
    (λ y. is_allowed p t names codes j y n v)

-- ... of every entry
unfoldable pub all_allowed : Program → Tables → List ℕ → List ℕ → ℕ → ℕ → Bool
all_allowed p t names codes n v = any 0 t.mail.size (λ j. in_allowed p t names codes j n v)

-- all sets of letters stand in the table
abbrev pub LetterRoom : Program → Tables → List ℕ → Type 0
LetterRoom p t letters = Room (letter_width_of p t) (allowed_set p t.mail.size) letters

-- ... and have nothing in them
pub record LettersEmpty (p : Program) (t : Tables) (letters : List ℕ) : Type 0 where
  pub room : LetterRoom p t letters
  pub empty : Empty (letter_width_of p t) letters
