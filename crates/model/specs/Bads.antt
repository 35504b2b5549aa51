-- Document 01, "Ceilings and bads": the rows of bads; refusal 6 (bad).
use Rattle.std.specs.Prelude.{ℕ, zero, suc, ◌+◌, ◌-◌, Bool, true, false, not, ◌&&◌, List, [], ◌∷◌, replicate, leb, ltb, eqb}
use Rattle.std.proofs.Math.Option.{Option, map}
use Rattle.model.specs.declared.Sizes.{Sizes}
use Rattle.model.specs.declared.Verdict.TheVariants.{Bad}
use Rattle.model.specs.Tags.{tag_class, tag_head, tag_letter, tag_argument, tag_minimum, tag_bad_end}
use Rattle.model.specs.Index.{first, gather}
use Rattle.model.specs.Words.{Columns, left, right, columns}
use Rattle.model.specs.Verdict.{Check}
use Rattle.model.specs.Message.{bads_offset}
use Rattle.model.specs.Reader.{Grammar, fits, after, first_wrong_of}
use Rattle.model.specs.Rows.{Program, tag, arity, is_head_of}
use Rattle.model.specs.Heads.{is_class_of}
use Rattle.model.specs.Letters.{head_count, Letter}

-- "Bads: B bads, E rows; tags, numbers"
unfoldable pub bad_rows : List ℕ → Sizes → Columns
bad_rows ws s = columns ws s.badrows (bads_offset s + 2) (bads_offset s + 2 + s.badrows)

pub data Part : Type 0 where
  bad : Part  -- its first item
  subject : Part  -- (41, head) or (42, letter)
  minimum : ℕ → Part  -- (43, minimum from 1), before which so many (45, head) may stand, all or none
  detail : ℕ → Part  -- so many (45, head), then the minimum
  further : Part  -- another item, or the end

-- "A bad is items (40, class), (41, head) or (42, letter), (43, minimum from 1), then (44, 0)"
abbrev pub item : List Part
item = subject ∷ further ∷ []

-- how many heads a letter of this number has: "C and C+1 stay letters"
unfoldable pub letter_arity_of : Program → ℕ → ℕ
letter_arity_of p k = elim (ltb k p.constructors) [ true ↦ arity p k | false ↦ 0 ]

unfoldable pub subject_step : Program → ℕ → ℕ → Option (List Part)
subject_step p t n =
    elim (eqb t tag_head) [
      | true ↦ fits (is_head_of (tag p n)) (minimum 0 ∷ [])
      | false ↦ fits (eqb t tag_letter && ltb n (head_count p)) (minimum (letter_arity_of p n) ∷ [])
    ]

-- document 02, (viii): "(42, constructor) may be followed by (45, head) for each argument"
unfoldable pub detail_step : Program → ℕ → ℕ → ℕ → Option (List Part)
detail_step p zero t n = fits (eqb t tag_minimum && leb 1 n) []
detail_step p (suc a) t n = fits (eqb t tag_argument && ltb n (head_count p)) (detail a ∷ [])

unfoldable pub bad_step : Program → Grammar Part
bad_step p bad t n = fits (eqb t tag_class && is_class_of p n) item
bad_step p subject t n = subject_step p t n
bad_step p (minimum a) t n = elim (eqb t tag_argument) [ true ↦ detail_step p a t n | false ↦ detail_step p 0 t n ]
bad_step p (detail a) t n = detail_step p a t n
bad_step p further t n =
    elim (eqb t tag_bad_end) [ true ↦ fits (eqb n 0) [] | false ↦ fits (eqb t tag_class && is_class_of p n) item ]

-- 6: "form, class, head, letter, no item, or not B bads: first such tag, a row after B bads included; rows ending
-- early: the word past the tags"
unfoldable pub bad_check_of : List ℕ → Sizes → Program → Check
bad_check_of ws s p =
    map (λ r. Bad (bads_offset s + 2 + r)) (first_wrong_of (bad_step p) (bad_rows ws s) (replicate s.bads bad))

-- the first row of bad number j
unfoldable pub bad_row_of : Program → Columns → ℕ → ℕ
bad_row_of p rows j = after (bad_step p) rows (replicate j bad) 0

-- What an item asks the count of: "(40, class), (41, head) or (42, letter)". Document 02, (iv): "A bad on (class, head)
-- now counts the sum over the third column"; (viii): "(42, constructor) may be followed by (45, head) for each
-- argument; without them it counts the sum".
pub data Subject : Type 0 where
  at_head : (class head : ℕ) → Subject
  of_letters : (class number : ℕ) → Subject  -- every letter of this number
  of_letter : (class : ℕ) (letter : Letter) → Subject

-- the row behind the heads that stand from row r on
unfoldable pub past_heads_of : Columns → ℕ → ℕ
past_heads_of rows r = first r rows.size (λ i. not (eqb (left rows i) tag_argument))

-- the numbers of the rows from r up to e
unfoldable pub numbers : Columns → ℕ → ℕ → List ℕ
numbers rows r e = gather r e (λ i. right rows i ∷ [])

-- what the item counts whose first row is r, and whose minimum stands in row e
unfoldable pub subject_at : Columns → ℕ → ℕ → Subject
subject_at rows r e =
    let c : ℕ = right rows r in
    let n : ℕ = right rows (r + 1) in
    elim (eqb (left rows (r + 1)) tag_head) [
      | true ↦ at_head c n
      | false ↦ elim (eqb e (r + 2)) [ true ↦ of_letters c n | false ↦ of_letter c (n ∷ numbers rows (r + 2) e) ]
    ]

-- an item: its subject, and its minimum
pub record Item : Type 0 where
  pub subject : Subject
  pub minimum : ℕ

unfoldable pub item_at : Columns → ℕ → ℕ → Item
item_at rows r e = record { subject = subject_at rows r e; minimum = right rows e }

-- the items from row r on, until a row begins none; n rows are left
unfoldable pub items_from : Columns → ℕ → ℕ → List Item
items_from rows zero r = []
items_from rows (suc n) r =
    let e : ℕ = past_heads_of rows (r + 2) in
    elim (eqb (left rows r) tag_class) [ true ↦ item_at rows r e ∷ items_from rows n (e + 1) | false ↦ [] ]

-- the items of bad number j
unfoldable pub items : Program → Columns → ℕ → List Item
items p rows j = items_from rows (rows.size - bad_row_of p rows j) (bad_row_of p rows j)

-- "it is met when every item is, an item when its count is at least its minimum": by the counts
unfoldable pub met : (Subject → ℕ) → List Item → Bool
met counts [] = true
met counts (i ∷ is) = leb i.minimum (counts i.subject) && met counts is
