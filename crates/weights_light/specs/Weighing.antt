-- What is handed to the check of the bads by weights.
use Rattle.std.specs.Prelude.{ℕ, ◌≤◌, ◌<◌, ◌≡◌, List}
use Rattle.model.specs.declared.Sizes.{Sizes}
use Rattle.model.specs.Limits.{max_counters}
use Rattle.model.specs.Rows.{program}
use Rattle.model.specs.Tables.{tables, state_index_of}
use Rattle.model.specs.Closed.{start_state}
use Rattle.model.specs.Bads.{bad_rows}
use Rattle.model.specs.Counters.{counter_count}
use Rattle.model.specs.Weights.{lines_of}
use Rattle.ceilings_form.specs.Parts.{Whole}
use Rattle.bads_rows.specs.Items.{ItemsCounted}
use Rattle.weights.specs.Table.{WeightsTable}

-- the counters, how many they are, the table of weights, the counters of the items, and the start's counter
pub record Weighing (ws : List ℕ) (s : Sizes) (n : ℕ) (weights froms tos : List ℕ) (x0 : ℕ) : Type 0 where
  pub whole : Whole ws s
  pub counters : n ≡ counter_count (program ws s) (tables ws s)
  pub counters_low : n ≤ max_counters
  pub weights_table : WeightsTable (lines_of ws s n) weights
  pub items_table : ItemsCounted (program ws s) (tables ws s) (bad_rows ws s) froms tos
  pub start : x0 ≡ state_index_of (tables ws s) (start_state (program ws s))
  pub start_low : x0 < n
