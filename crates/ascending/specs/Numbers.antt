-- Numbers that ascend in some words of a table, and what it is to put others among them.
use Rattle.std.specs.Prelude.{ℕ, ◌+◌, ◌≤◌, ◌<◌, ◌≡◌, List, ◌⊎◌, length, get_or}
use Rattle.model.specs.Limits.{max_counters}

-- the words from..n ascend
pub record Rising (from n : ℕ) (words : List ℕ) : Type 0 where
  pub order : (i j : ℕ) → from ≤ i → i < j → j < n → get_or words i 0 < get_or words j 0

-- x is one of the words from..n
pub record Has (from n : ℕ) (words : List ℕ) (x : ℕ) : Type 0 where
  pub at : ℕ
  pub behind : from ≤ at
  pub below : at < n
  pub is : get_or words at 0 ≡ x

-- word e is the first of the words from..n that is not below x
pub record Placed (from n : ℕ) (words : List ℕ) (x e : ℕ) : Type 0 where
  pub behind : from ≤ e
  pub upto : e ≤ n
  pub less : (i : ℕ) → from ≤ i → i < e → get_or words i 0 < x
  pub more : (i : ℕ) → e ≤ i → i < n → x ≤ get_or words i 0

-- the words k..n stand one place further up; those below k as they were
pub record Shifted (k n : ℕ) (old new : List ℕ) : Type 0 where
  pub long : length new ≡ length old
  pub below : (i : ℕ) → i < k → get_or new i 0 ≡ get_or old i 0
  pub moved : (i : ℕ) → k ≤ i → i < n → get_or new (i + 1) 0 ≡ get_or old i 0

-- the words from..n ascend, and there is room for one more than the most
pub record Room (most from n : ℕ) (words : List ℕ) : Type 0 where
  pub limit : most ≤ max_counters
  pub long : most < length words
  pub begun : from ≤ n
  pub upto : n ≤ most + 1
  pub rising : Rising from n words

-- The numbers that New tells are put among the words from..n, which then are the words from..m and still ascend. All of
-- them are there where m is at most the most.
pub record Added (New : ℕ → Type 0) (most from n : ℕ) (old : List ℕ) (m : ℕ) (new : List ℕ) : Type 0 where
  pub long : length new ≡ length old
  pub grows : n ≤ m
  pub upto : m ≤ most + 1
  pub below : (i : ℕ) → i < from → get_or new i 0 ≡ get_or old i 0
  pub rising : Rising from m new
  pub sound : (x : ℕ) → Has from m new x → Has from n old x ⊎ New x
  pub kept : m ≤ most → (x : ℕ) → Has from n old x → Has from m new x
  pub complete : m ≤ most → (x : ℕ) → New x → Has from m new x
