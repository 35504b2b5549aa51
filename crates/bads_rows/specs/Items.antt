-- The items and the ends of the bads by their rows, and what the lent tables say of the counters of each item.
use Rattle.std.specs.Prelude.{ℕ, ◌+◌, ◌-◌, ◌≤◌, ◌<◌, ◌≡◌, true, false, List, [], ◌∷◌, length, get_or, replicate}
use Rattle.std.proofs.Math.Option.{none}
use Rattle.model.specs.declared.Sizes.{Sizes}
use Rattle.model.specs.Words.{Columns}
use Rattle.model.specs.Reader.{past, read, after, first_wrong_of}
use Rattle.model.specs.Rows.{Program, program}
use Rattle.model.specs.Tables.{Tables}
use Rattle.model.specs.Bads.{bad, bad_step, bad_rows, Subject, past_heads_of, subject_at}
use Rattle.model.specs.Bads.{Item, item_at, items_from}
use Rattle.model.specs.Counters.{counter_count, counts}

-- the counters from `from` below `to`, and no others, are those whose sum an item of this subject counts
pub record Range (p : Program) (t : Tables) (k : Subject) (from to : ℕ) : Type 0 where
  pub order : from ≤ to
  pub upto : to ≤ counter_count p t
  pub before : (x : ℕ) → x < from → counts p t k x ≡ false
  pub within : (x : ℕ) → from ≤ x → x < to → counts p t k x ≡ true
  pub behind : (x : ℕ) → to ≤ x → x < counter_count p t → counts p t k x ≡ false

-- what the item counts whose first row is r: its minimum stands behind its heads
unfoldable pub subject_from : Columns → ℕ → Subject
subject_from rows r = subject_at rows r (past_heads_of rows (r + 2))

-- the item whose first row is r
unfoldable pub item_from : Columns → ℕ → Item
item_from rows r = item_at rows r (past_heads_of rows (r + 2))

-- for each row r, whether or not an item stands there: the counters of the item that would stand there
pub record ItemsCounted (p : Program) (t : Tables) (rows : Columns) (froms tos : List ℕ) : Type 0 where
  pub from_room : rows.size ≤ length froms
  pub to_room : rows.size ≤ length tos
  pub range : (r : ℕ) → r < rows.size → Range p t (subject_from rows r) (get_or froms r 0) (get_or tos r 0)

-- refusal 6 refuses nothing: the rows are the bads and nothing else
abbrev pub BadsInForm : List ℕ → Sizes → Type 0
BadsInForm ws s = first_wrong_of (bad_step (program ws s)) (bad_rows ws s) (replicate s.bads bad) ≡ none

-- ... and there are j of them or more
pub record BadsUpto (ws : List ℕ) (s : Sizes) (j : ℕ) : Type 0 where
  pub in_form : BadsInForm ws s
  pub upto : j ≤ s.bads

-- the row after the bad that stands at row r
unfoldable pub bad_end : Program → Columns → ℕ → ℕ
bad_end p rows r = after (bad_step p) rows (bad ∷ []) r

-- a bad stands at row r
abbrev pub BadStands : Program → Columns → ℕ → Type 0
BadStands p rows r = read (bad_step p) rows (rows.size - r) (bad ∷ []) r ≡ past (bad_end p rows r)

-- the items of the bad that stands at row r
unfoldable pub items_at : Columns → ℕ → List Item
items_at rows r = items_from rows (rows.size - r) r
