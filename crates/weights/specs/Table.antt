-- What the table of weights says: the weight of each counter in each line, counter by counter, as the table of limits
-- has the limits; and where each line begins.
use Rattle.std.specs.Prelude.{ℕ, ◌*◌, ◌≤◌, ◌<◌, ◌≡◌, List, length, get_or}
use Rattle.model.specs.Limits.{max_weight}
use Rattle.model.specs.Words.{Columns}
use Rattle.model.specs.Weights.{Lines, line_entry}
use Rattle.ceilings.specs.Table.{held}

pub record WeightsTable (ls : Lines) (weights : List ℕ) : Type 0 where
  pub room : ls.counters * ls.size ≤ length weights
  pub weight : (k x : ℕ) → k < ls.size → x < ls.counters → held weights ls.size k x ≡ ls.weight k x
  -- "weights 1 to 1,000", and 0 where none is given
  pub small : (k x : ℕ) → k < ls.size → x < ls.counters → ls.weight k x ≤ max_weight

-- the first entries of the lines
pub record BeginsTable (n : ℕ) (entries : Columns) (lines : ℕ) (starts : List ℕ) : Type 0 where
  pub room : lines ≤ length starts
  pub start : (k : ℕ) → k < lines → get_or starts k 0 ≡ line_entry n entries k
