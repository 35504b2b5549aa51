-- What the test of the rules against the lines is handed.
use Rattle.std.specs.Prelude.{ℕ, ◌≡◌, List}
use Rattle.model.specs.declared.Sizes.{Sizes}
use Rattle.model.specs.Rows.{program}
use Rattle.model.specs.Tables.{tables}
use Rattle.model.specs.Counters.{counter_count}
use Rattle.model.specs.Weights.{weight_entries, lines_of}
use Rattle.weights.specs.Table.{WeightsTable, BeginsTable}

-- the n counters of a message, and the tables of its lines
pub record WeightsReady (ws : List ℕ) (s : Sizes) (n : ℕ) (weights starts : List ℕ) : Type 0 where
  pub counted : n ≡ counter_count (program ws s) (tables ws s)
  pub table : WeightsTable (lines_of ws s n) weights
  pub begins : BeginsTable n (weight_entries ws s) s.lines starts
