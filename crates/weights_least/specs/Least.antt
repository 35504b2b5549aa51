-- The least weight of a bad by ranges of counters, and the counts that stand in a table while it is found.
use Rattle.std.specs.Prelude.{ℕ, ◌+◌, ◌-◌, ◌*◌, ◌≤◌, ◌<◌, ◌≡◌, Bool, true, false, not, List, get_or, ltb}
use Rattle.model.specs.declared.Sizes.{Sizes}
use Rattle.model.specs.Limits.{max_counters}
use Rattle.model.specs.Index.{any, total}
use Rattle.model.specs.Rows.{program}
use Rattle.model.specs.Tables.{tables}
use Rattle.model.specs.Bads.{bad_rows, Subject}
use Rattle.model.specs.Counters.{counter_count, counts}
use Rattle.model.specs.Markings.{Marking}
use Rattle.model.specs.Weights.{Line, lines_of, weighed, is_single_of, without_counter}
use Rattle.ceilings_form.specs.Parts.{Whole}
use Rattle.bads_rows.specs.Items.{ItemsCounted, subject_from, items_at}
use Rattle.weights.specs.Table.{WeightsTable}

-- how many counters a message has
abbrev pub counters_of : List ℕ → Sizes → ℕ
counters_of ws s = counter_count (program ws s) (tables ws s)

-- line k of a message
abbrev pub line_of : List ℕ → Sizes → ℕ → Line
line_of ws s k = (lines_of ws s (counters_of ws s)).weight k

-- what is handed to weigh the bads
pub record Weighable (ws : List ℕ) (s : Sizes) (weights froms tos : List ℕ) : Type 0 where
  pub whole : Whole ws s
  pub counters_low : counters_of ws s ≤ max_counters
  pub weights_table : WeightsTable (lines_of ws s (counters_of ws s)) weights
  pub items_table : ItemsCounted (program ws s) (tables ws s) (bad_rows ws s) froms tos

-- the counts that the first n words hold: there are no others
unfoldable pub counts_in : ℕ → List ℕ → Marking
counts_in n counts x = elim (ltb x n) [ true ↦ get_or counts x 0 | false ↦ 0 ]

-- of the counters from `from` below `to`, y is the first than which none is lighter
pub record LightestIn (w : Line) (from to y : ℕ) : Type 0 where
  pub above : from ≤ y
  pub below : y < to
  pub least : (x : ℕ) → from ≤ x → x < to → w y ≤ w x
  pub earliest : (x : ℕ) → from ≤ x → x < y → w y < w x

-- what the words from `from` below `to` lack of a minimum
unfoldable pub lacking : List ℕ → ℕ → ℕ → ℕ → ℕ
lacking counts from to minimum = minimum - total from to (λ x. get_or counts x 0)

-- what they lack was put on the lightest of them, and weighs this
pub record PutLacking (w : Line) (from to minimum : ℕ) (before after : List ℕ) (weight : ℕ) : Type 0 where
  pub at : ℕ
  pub lightest : LightestIn w from to at
  pub there : get_or after at 0 ≡ get_or before at 0 + lacking before from to minimum
  pub others : (x : ℕ) → (x ≡ at → ⊥) → get_or after x 0 ≡ get_or before x 0
  pub weighs : weight ≡ w at * lacking before from to minimum

-- the items of a pass: the single letters, or the groups
unfoldable pub in_pass : Bool → Subject → Bool
in_pass true k = is_single_of k
in_pass false k = not (is_single_of k)

-- the item whose first row is r has a counter
abbrev pub HasCounter : List ℕ → Sizes → ℕ → Type 0
HasCounter ws s r =
    any 0 (counters_of ws s) (counts (program ws s) (tables ws s) (subject_from (bad_rows ws s) r)) ≡ true

-- no item from row r on is without a counter
abbrev pub AllCounted : List ℕ → Sizes → ℕ → Type 0
AllCounted ws s r = without_counter (program ws s) (tables ws s) (items_at (bad_rows ws s) r) ≡ false

-- the most that one item adds to a weight: what is lacking and a weight are words
abbrev pub most_put : ℕ
most_put = 65535 * 65535

-- What counts of n counters weigh in a line has grown by this much, from some counts to others
abbrev pub Grown : ℕ → Line → Marking → Marking → ℕ → Type 0
Grown n w before after more = weighed n w before + more ≡ weighed n w after
