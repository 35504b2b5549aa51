-- What the table of limits says: the limit of each counter under each ceiling, counter by counter, so that the limits
-- of one counter stand together.
use Rattle.std.specs.Prelude.{ℕ, ◌+◌, ◌*◌, ◌-◌, ◌≤◌, ◌<◌, ◌≡◌, List, length, get_or}
use Rattle.model.specs.Words.{Columns}
use Rattle.model.specs.Ceilings.{CeilingLimits, Ceilings, ceiling_entry, limit_from}

-- the limits that the table of so many ceilings holds for ceiling k
abbrev pub held : List ℕ → ℕ → ℕ → CeilingLimits
held limits ceilings k x = get_or limits (x * ceilings + k) 0

pub record LimitsTable (bs : Ceilings) (limits : List ℕ) : Type 0 where
  pub room : bs.counters * bs.size ≤ length limits
  pub limit : (k x : ℕ) → k < bs.size → x < bs.counters → held limits bs.size k x ≡ bs.limit k x

-- the number that the entries give counter x in ceiling k
abbrev pub number_of : ℕ → Columns → ℕ → CeilingLimits
number_of n entries k x =
    limit_from n entries (entries.size - ceiling_entry n entries k) (ceiling_entry n entries k) x

-- the same of the entries of any part, which are so many ceilings, or lines
pub record BoundsTable (n : ℕ) (entries : Columns) (count : ℕ) (limits : List ℕ) : Type 0 where
  pub room : n * count ≤ length limits
  pub number : (k x : ℕ) → k < count → x < n → held limits count k x ≡ number_of n entries k x

-- the first so many words are 0
abbrev pub Blank : List ℕ → ℕ → Type 0
Blank limits cells = (z : ℕ) → z < cells → get_or limits z 0 ≡ 0

-- room for so many ceilings of n counters, or lines, none of which stands there yet, and for where each begins
pub record BoundsRoom (n count : ℕ) (limits starts : List ℕ) : Type 0 where
  pub cells : n * count ≤ length limits
  pub blank : Blank limits (n * count)
  pub firsts : count ≤ length starts

-- nothing stands yet for ceiling k of so many, under n counters
abbrev pub Unfilled : ℕ → ℕ → List ℕ → ℕ → Type 0
Unfilled n ceilings limits k = (x : ℕ) → x < n → held limits ceilings k x ≡ 0

-- it is one of so many, and has room
pub record CeilingRoom (n ceilings : ℕ) (limits : List ℕ) (k : ℕ) : Type 0 where
  pub below : k < ceilings
  pub unfilled : Unfilled n ceilings limits k
  pub cells : n * ceilings ≤ length limits

-- ceiling k, whose entries stand from e on, has its limits, and the others are as before
pub record CeilingFilled (n : ℕ) (entries : Columns) (ceilings k e : ℕ) (before limits : List ℕ) : Type 0 where
  pub here : (x : ℕ) → x < n → held limits ceilings k x ≡ limit_from n entries (entries.size - e) e x
  pub others : (j x : ℕ) → j < ceilings → (j ≡ k → ⊥) → held limits ceilings j x ≡ held before ceilings j x
