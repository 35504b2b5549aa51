-- The letters that an item names, which stand together; what they are read from.
use Rattle.std.specs.Prelude.{ℕ, ◌+◌, ◌-◌, ◌≤◌, ◌<◌, ◌≡◌, Bool, ◌&&◌, ◌||◌, List, length, get_or, leb, ltb, eqb}
use Rattle.model.specs.declared.Sizes.{Sizes}
use Rattle.model.specs.Limits.{max_counters}
use Rattle.model.specs.Index.{all}
use Rattle.model.specs.Words.{Columns, right}
use Rattle.model.specs.Rows.{Program, program}
use Rattle.model.specs.Letters.{Letter}
use Rattle.model.specs.Tables.{Tables, tables}
use Rattle.model.specs.Bads.{letter_arity_of}
use Rattle.model.specs.Counters.{counter_count}
use Rattle.lists.specs.Ready.{Ready}
use Rattle.system_letters.specs.Letters.{ClassLetters, LetterSets, letter_at_of, letter_width_of}

-- the checks before refusal 8 found nothing, and the letters are known: where those of each class begin, and their sets
pub record LettersFilled (ws : List ℕ) (s : Sizes) (letter_at_of letters : List ℕ) : Type 0 where
  pub ready : Ready ws s
  pub class_letters : ClassLetters (program ws s) (tables ws s) letter_at_of
  pub letter_sets_of : LetterSets (program ws s) (tables ws s) letters

-- the same of the sets alone, each of w words
pub record SetsFilled (ws : List ℕ) (s : Sizes) (letters : List ℕ) (w : ℕ) : Type 0 where
  pub ready : Ready ws s
  pub letter_sets_of : LetterSets (program ws s) (tables ws s) letters
  pub width : w ≡ letter_width_of (program ws s) (tables ws s)

-- every counter is a word, and both tables have one for each row of the bads
pub record ItemsRoom (ws : List ℕ) (s : Sizes) (froms tos : List ℕ) : Type 0 where
  pub few : counter_count (program ws s) (tables ws s) ≤ max_counters
  pub from_room : s.badrows ≤ length froms
  pub to_room : s.badrows ≤ length tos

-- the digits of a letter are the numbers of the rows from..to: its number, then the heads of its arguments
unfoldable pub digits_are : Columns → ℕ → ℕ → Letter → Bool
digits_are rows from to l = all from to (λ i. eqb (get_or l (i - from) 0) (right rows i))

-- letter y has those digits
unfoldable pub is_named_of : Program → Tables → Columns → ℕ → ℕ → ℕ → Bool
is_named_of p t rows from to y = digits_are rows from to (letter_at_of p t y)

-- the rows from..to are those of a number alone, or of a number and as many heads as its letters have
unfoldable pub names_letters_of : Program → Columns → ℕ → ℕ → Bool
names_letters_of p rows from to =
    eqb to (from + 1) || eqb to (from + 1 + letter_arity_of p (right rows from))

-- of the letters from `low` below `high`, those from `from` below `to`, and no others, pass
pub record Stretched (passes : ℕ → Bool) (low high from to : ℕ) : Type 0 where
  pub order : from ≤ to
  pub upto : to ≤ high
  pub some : from < to → low ≤ from
  pub each : (y : ℕ) → low ≤ y → y < high → passes y ≡ (leb from y && ltb y to)
