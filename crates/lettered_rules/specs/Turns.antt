-- The rules that go by letters: of one value that the target of a send may have, of one branch of a receive. e is the
-- number of the state that the rules are told from.
use Rattle.std.specs.Prelude.{ℕ, ◌+◌, ◌≤◌, ◌≡◌, true, false, List, [], map, length, get_or, Option}
use Rattle.bits.specs.Bits.{Row}
use Rattle.model.specs.declared.Sizes.{Sizes}
use Rattle.model.specs.Keys.{ascending}
use Rattle.model.specs.Rows.{Program, program}
use Rattle.model.specs.Heads.{is_class_of}
use Rattle.model.specs.Letters.{Letter}
use Rattle.model.specs.Tables.{Tables, tables}
use Rattle.model.specs.Counters.{letters_allowed, letter_index}
use Rattle.model.specs.Rules.{Effect, reads, puts, Rule, rule, from_each, letters_read}
use Rattle.rules.specs.Within.{AskedRow}
use Rattle.system_letters.specs.Letters.{letter_width_of}

-- the rules for letters of class d, ascending, that lead to the state `to`
unfoldable pub letter_rules : Program → Tables → (ℕ → Effect) → ℕ → ℕ → List Letter → ℕ → List Rule
letter_rules p t effect to d ls e = map (λ l. rule e to (effect (letter_index p t d l))) (ascending ls)

-- the letters of the name m put into the mail of d, where that is a class
unfoldable pub sent_turn : Program → Tables → ℕ → ℕ → ℕ → ℕ → List Rule
sent_turn p t m to d e =
    elim (is_class_of p d) [
      | true ↦ letter_rules p t puts to d (from_each t.flow m (letters_allowed p t)) e
      | false ↦ []
    ]

-- the letters of class c that the branch reads whose pattern stands at row q
unfoldable pub read_turn : Program → Tables → ℕ → ℕ → ℕ → ℕ → List Rule
read_turn p t c q to e = letter_rules p t reads to c (from_each t.mail c (letters_read p t q)) e

-- Row d is a value's or the class of the program; the sets have room for all letters, and the two lists for the
-- rules of those of class d behind n rules.
pub record ClassRoom (ws : List ℕ) (s : Sizes) (letter_at : List ℕ) (within : Option (List ℕ))
    (part found tos others : List ℕ) (n d : ℕ) : Type 0 where
  pub value : d ≤ s.rows
  pub within_row : AskedRow within (letter_width_of (program ws s) (tables ws s))
  pub part_row : Row part (letter_width_of (program ws s) (tables ws s)) 0
  pub found_row : Row found (letter_width_of (program ws s) (tables ws s)) 0
  pub tos_room : n + get_or letter_at (d + 1) 0 ≤ length tos + get_or letter_at d 0
  pub others_room : length others ≡ length tos
  pub low : n ≤ 65536
