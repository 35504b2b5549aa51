-- A table of sums of counts: word x has the sum over the counters below x.
use Rattle.std.specs.Prelude.{ℕ, ◌+◌, ◌-◌, ◌≤◌, ◌<◌, ◌≡◌, List, length, get_or}
use Rattle.model.specs.declared.Sizes.{Sizes}
use Rattle.model.specs.Index.{total}
use Rattle.model.specs.Rows.{program}
use Rattle.model.specs.Tables.{tables}
use Rattle.model.specs.Bads.{bad_rows}
use Rattle.model.specs.Counters.{counter_count}
use Rattle.model.specs.Markings.{Marking}
use Rattle.ceilings_form.specs.Parts.{Whole}
use Rattle.bads_rows.specs.Items.{ItemsCounted}

-- the table holds the sums of these counts, of n counters
abbrev pub SumsOf : Marking → ℕ → List ℕ → Type 0
SumsOf m n sums = (x : ℕ) → x ≤ n → get_or sums x 0 ≡ total 0 x m

-- the counts whose sums the table holds
unfoldable pub counts_of : List ℕ → Marking
counts_of sums x = get_or sums (x + 1) 0 - get_or sums x 0

-- what is asked to count the items of the bads: their counters, and sums of all counters, none of which falls
pub record Summed (ws : List ℕ) (s : Sizes) (froms tos sums : List ℕ) : Type 0 where
  pub whole : Whole ws s
  pub items_table : ItemsCounted (program ws s) (tables ws s) (bad_rows ws s) froms tos
  pub room : counter_count (program ws s) (tables ws s) < length sums
  pub rising : (x : ℕ) → x < counter_count (program ws s) (tables ws s) → get_or sums x 0 ≤ get_or sums (x + 1) 0
