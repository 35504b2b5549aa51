-- What heads ask whatever the state, kept by row.
use Rattle.std.specs.Prelude.{ℕ, ◌-◌, ◌≤◌, ◌<◌, ◌≡◌, List, length, get_or}
use Rattle.model.specs.Rows.{Program, size}
use Rattle.model.specs.Tables.{Tables}
use Rattle.settled.specs.Settled.{Settled}

-- a row's word is 0 where nothing is known, else one more than the code of the head there
pub record Codes (p : Program) (t : Tables) (codes : List ℕ) : Type 0 where
  pub room : size p ≤ length codes
  pub kept : (r : ℕ) → 0 < get_or codes r 0 → Settled p t r (get_or codes r 0 - 1)
