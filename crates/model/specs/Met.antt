-- Document 01, "Ceilings and bads", said outright: which items a bad has, what each counts and its minimum, and when
-- the bad is met. (Bads.antt says the same as a test over the rows.)
use Rattle.std.specs.Prelude.{ℕ, ◌+◌, ◌≤◌, ◌<◌, ◌≡◌, true, ◌↔◌, ◌∷◌, replicate, eqb}
use Rattle.std.proofs.Math.Option.{none}
use Rattle.model.specs.Tags.{tag_bad_end}
use Rattle.model.specs.Index.{count}
use Rattle.model.specs.Words.{Columns, left, right}
use Rattle.model.specs.Reader.{first_wrong_of}
use Rattle.model.specs.Rows.{Program}
use Rattle.model.specs.Bads.{Subject, at_head, of_letters, of_letter, numbers, bad, bad_step, items, met}

-- "(40, class), (41, head) or (42, letter), (43, minimum from 1)": the item whose first row is r, what it counts, and
-- its minimum
pub data Item (rows : Columns) (r : ℕ) : Subject → ℕ → Type 0 where
  of_states :
      left rows r ≡ 40 → left rows (r + 1) ≡ 41 → left rows (r + 2) ≡ 43 →
      Item rows r (at_head (right rows r) (right rows (r + 1))) (right rows (r + 2))
  of_sum :
      left rows r ≡ 40 → left rows (r + 1) ≡ 42 → left rows (r + 2) ≡ 43 →
      Item rows r (of_letters (right rows r) (right rows (r + 1))) (right rows (r + 2))
  -- document 02, (viii): "(42, constructor) may be followed by (45, head) for each argument", in the rows up to e
  of_one :
      (e : ℕ) → r + 2 < e → left rows r ≡ 40 → left rows (r + 1) ≡ 42 →
      ((i : ℕ) → r + 2 ≤ i → i < e → left rows i ≡ 45) → left rows e ≡ 43 →
      Item rows r (of_letter (right rows r) (right rows (r + 1) ∷ numbers rows (r + 2) e)) (right rows e)

-- "then (44, 0)" closes a bad: a row is of bad number j where so many bads are closed before it
unfoldable pub closed_before : Columns → ℕ → ℕ
closed_before rows r = count 0 r (λ q. eqb (left rows q) tag_bad_end)

-- "it is met when every item is, an item when its count is at least its minimum"
abbrev pub AllMet : (Subject → ℕ) → Columns → ℕ → Type 0
AllMet counts rows j =
    (r : ℕ) → r < rows.size → closed_before rows r ≡ j →
    (k : Subject) (least : ℕ) → Item rows r k least → least ≤ counts k

-- The test is that, in bads that are in form.
abbrev pub MetExactly : Type 0
MetExactly =
    (p : Program) (rows : Columns) (bads : ℕ) → first_wrong_of (bad_step p) rows (replicate bads bad) ≡ none →
    (counts : Subject → ℕ) (j : ℕ) → j < bads → (met counts (items p rows j) ≡ true) ↔ AllMet counts rows j
