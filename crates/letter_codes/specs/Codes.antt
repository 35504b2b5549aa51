-- The letters that mail allows, as numbers.
use Rattle.std.specs.Prelude.{ℕ, ◌+◌, ◌≤◌, ◌<◌, ◌≡◌, true, false, List, length, get_or, leb}
use Rattle.model.specs.declared.Sizes.{Sizes}
use Rattle.model.specs.Limits.{max_counters}
use Rattle.model.specs.Words.{right}
use Rattle.model.specs.Rows.{Program}
use Rattle.model.specs.Tables.{Tables}
use Rattle.model.specs.Counters.{letter_count_of}
use Rattle.system_letters.specs.Letters.{letter_at_of}
use Rattle.ascending.specs.Numbers.{Room}
use Rattle.value_letters.specs.Letters.{letter_code, Allowed}

-- word y is the number of letter y
pub record Coded (p : Program) (t : Tables) (codes : List ℕ) : Type 0 where
  pub room : letter_count_of p t ≤ length codes
  pub code : (y : ℕ) → y < letter_count_of p t → get_or codes y 0 ≡ letter_code (letter_at_of p t y)

-- n, or one more than the most where it is above that
unfoldable pub capped : ℕ → ℕ → ℕ
capped most n = elim (leb n most) [ true ↦ n | false ↦ most + 1 ]

-- x is the number of a letter that a value of the mail entries from..to allows
pub record AllowedIn (p : Program) (t : Tables) (from to x : ℕ) : Type 0 where
  pub entry : ℕ
  pub behind : from ≤ entry
  pub below : entry < to
  pub allowed : Allowed p t (right t.mail entry) x

-- mail entries, and room for the numbers of the letters that their values allow
pub record EntriesRoom (s : Sizes) (from to most n : ℕ) (codes : List ℕ) : Type 0 where
  pub order : from ≤ to
  pub upto : to ≤ s.mails
  pub room : Room most n n codes

-- room for where the letters of each class begin, and for the numbers of one letter more than the most
pub record CodesRoom (s : Sizes) (most : ℕ) (letter_at_of codes : List ℕ) : Type 0 where
  pub few : most ≤ max_counters
  pub starts : s.rows + 1 < length letter_at_of
  pub numbers : most < length codes
