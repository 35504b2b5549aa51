-- What the table of guesses is left with: it is as long as it came, and each word is the one that came or below n.
use Rattle.std.specs.Prelude.{ℕ, ◌<◌, ◌≡◌, List, ◌⊎◌, length, get_or}

pub record Guessed (n : ℕ) (u t : List ℕ) : Type 0 where
  pub long : length t ≡ length u
  pub word : (k : ℕ) → (get_or t k 0 ≡ get_or u k 0) ⊎ (get_or t k 0 < n)
