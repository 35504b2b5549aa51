-- Letters as numbers, in whose order they stand, and those that a value allows.
use Rattle.std.specs.Prelude.{ℕ, zero, suc, ◌+◌, ◌-◌, ◌*◌, ◌^◌, ◌≤◌, ◌<◌, ◌≡◌, true, false, eqb}
use mathlib.Core.List.{List, [], ◌∷◌, Memᴰ}
use Rattle.bits.specs.Bits.{member}
use Rattle.model.specs.declared.Sizes.{Sizes}
use Rattle.model.specs.Limits.{max_arity}
use Rattle.model.specs.Tags.{tag_build}
use Rattle.model.specs.Index.{gather}
use Rattle.model.specs.Rows.{Program, program, tag, num, arity}
use Rattle.model.specs.Letters.{Letter}
use Rattle.model.specs.Tables.{Tables, tables}
use Rattle.model.specs.Closed.{argument}
use Rattle.model.specs.Counters.{name_heads, choices, any_argument, letters_allowed}
use Rattle.lists.specs.Ready.{Ready}
use Rattle.system_letters.specs.Letters.{digits, NameHeads}
use Rattle.ascending.specs.Numbers.{Room}

-- the checks before refusal 8 found nothing, and the table has the heads of each name's values
pub record HeadsKnown (ws : List ℕ) (s : Sizes) (names : List ℕ) : Type 0 where
  pub ready : Ready ws s
  pub name_heads : NameHeads (program ws s) (tables ws s) names

-- the number of n digits of seven bits, 0 where the list has no more
unfoldable pub digits_code : ℕ → List ℕ → ℕ
digits_code zero l = 0
digits_code (suc n) [] = 0
digits_code (suc n) (x ∷ l) = x * 128 ^ n + digits_code n l

-- a letter as a number: 9 digits of 7 bits are 63
unfoldable pub letter_code : Letter → ℕ
letter_code l = digits_code digits l

-- so many arguments a value of the tables has
unfoldable pub value_arity_of : Program → ℕ → ℕ
value_arity_of p v = elim (eqb (tag p v) tag_build) [ true ↦ arity p (num p (v + 1)) | false ↦ 0 ]

-- the value v has n arguments, each of them a name
pub record Arguments (p : Program) (v n : ℕ) : Type 0 where
  pub few : n ≤ max_arity
  pub named : (k : ℕ) → k < n → argument p v k < p.names

-- ... and its row is a word
pub record ValueOf (p : Program) (v n : ℕ) : Type 0 where
  pub low : v < 65536
  pub arguments : Arguments p v n

-- the prefix has a digit for the number of this value and for each argument below i, and there is room for the numbers
-- that begin with it
pub record Prefixed (p : Program) (v n i prefix most from m : ℕ) (codes : List ℕ) : Type 0 where
  pub value : ValueOf p v n
  pub digit : i ≤ max_arity
  pub short : prefix < 128 ^ (i + 1)
  pub room : Room most from m codes

-- x is the number of a letter that the value v allows
pub record Allowed (p : Program) (t : Tables) (v x : ℕ) : Type 0 where
  pub letter : Letter
  pub allows : Memᴰ letter (letters_allowed p t v)
  pub is : x ≡ letter_code letter

-- x begins with the digits of the prefix, which tell the number of v and its arguments below i, and goes on with a head
-- of each argument from i up to n
pub record Extended (p : Program) (t : Tables) (v n i prefix x : ℕ) : Type 0 where
  pub heads : List ℕ
  pub chosen : Memᴰ heads
      (choices (gather i n (λ k. name_heads p t (any_argument k) (argument p v k) ∷ [])))
  pub is : x ≡ prefix * 128 ^ (max_arity - i) + digits_code (max_arity - i) heads

-- some argument of v has no head
pub record Lacking (p : Program) (v n : ℕ) (names : List ℕ) : Type 0 where
  pub at : ℕ
  pub below : at < n
  pub none : (h : ℕ) → h < 128 → member names 2 (argument p v at) h ≡ false
