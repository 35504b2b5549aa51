-- An array as it is made: so many, all 0.
use Rattle.std.specs.Prelude.{ℕ, ◌≡◌, List, length, get_or}

pub record Cleared (n : ℕ) (r : List ℕ) : Type 0 where
  pub room : length r ≡ n
  pub zero : (k : ℕ) → get_or r k 0 ≡ 0
