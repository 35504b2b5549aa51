-- What the check of bads under the ceilings is handed, and when counts meet a bad.
use Rattle.std.specs.Prelude.{ℕ, ◌≤◌, ◌≡◌, Bool, List}
use Rattle.model.specs.declared.Sizes.{Sizes}
use Rattle.model.specs.Limits.{max_counters}
use Rattle.model.specs.Rows.{program}
use Rattle.model.specs.Tables.{tables}
use Rattle.model.specs.Bads.{bad_rows}
use Rattle.model.specs.Bads.{items, met}
use Rattle.model.specs.Counters.{counter_count}
use Rattle.model.specs.Markings.{Marking, sum_in}
use Rattle.model.specs.Ceilings.{ceilings_of}
use Rattle.ceilings_form.specs.Parts.{Whole}
use Rattle.ceilings.specs.Table.{LimitsTable}
use Rattle.bads_rows.specs.Items.{ItemsCounted}

-- what the check of bads under the ceilings is handed
pub record Ready (ws : List ℕ) (s : Sizes) (n : ℕ) (limits froms tos : List ℕ) : Type 0 where
  pub whole : Whole ws s
  pub counters : n ≡ counter_count (program ws s) (tables ws s)
  pub counters_low : n ≤ max_counters
  pub limits_table : LimitsTable (ceilings_of ws s n) limits
  pub items_table : ItemsCounted (program ws s) (tables ws s) (bad_rows ws s) froms tos

-- the counts meet bad number j
unfoldable pub bad_met : List ℕ → Sizes → Marking → ℕ → Bool
bad_met ws s m j = met (sum_in (program ws s) (tables ws s) m) (items (program ws s) (bad_rows ws s) j)
