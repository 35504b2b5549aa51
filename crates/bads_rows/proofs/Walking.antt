-- Items and bads one after the other, by the code's values; the counters of the item at a row.
use Prim.Native.Nat.{ℕ, ◌+◌, ◌-◌, ◌≤◌, ◌<◌}
use native.Mathlib.Omega.{arith}
use mathlib.Core.Path.{◌≡◌, refl, sym}
use mathlib.Core.List.{List, []}
use lib.ListN.{length, get_or}
use Rattle.model.specs.declared.Sizes.{Sizes}
use Rattle.model.specs.Words.{Columns, left, columns}
use Rattle.model.specs.Rows.{program}
use Rattle.model.specs.Tables.{tables}
use Rattle.model.specs.Bads.{bad, bad_step, bad_rows, bad_row_of, past_heads_of}
use Rattle.model.proofs.Reader.{read_takes}
use Rattle.ceilings_form.proofs.Repeated.{Walked, walked_start, walked_row, walked_inside, walked_stands, walked_next}
use Rattle.bads_rows.specs.Items.{Range, ItemsCounted, BadsInForm, BadStands, bad_end, subject_from}
use Rattle.bads_rows.proofs.BadRows.{heads_bounds, bad_inside}

module _ (ws : List ℕ) (s : Sizes) where
  abbrev rows : Columns
  rows = bad_rows ws s

  -- the rows are as many as the message says
  pub size_is : rows.size ≡ s.badrows
  unfolding bad_rows columns
  size_is = refl

  pub inside : (r : ℕ) → 0 < left rows r → r < rows.size
  inside r h = let e = size_is in omega (arith, bad_inside ws s r (left rows r) refl h)

  -- an item takes three rows or more, and does not end past the rows by more than that
  pub item_ends : (r : ℕ) → r ≤ s.badrows → (e : ℕ) → e ≡ past_heads_of rows (r + 2) → (r + 3 ≤ e + 1) × (e + 1 ≤ s.badrows + 3)
  item_ends r low e is = let z = size_is in let (a, b) = heads_bounds rows (r + 2) in (omega arith, omega arith)

  -- the counters of the item at a row
  module _ (froms tos : List ℕ) (table : ItemsCounted (program ws s) (tables ws s) rows froms tos) (r : ℕ) (low : r < s.badrows) where
    pub row_range : Range (program ws s) (tables ws s) (subject_from rows r) (get_or froms r 0) (get_or tos r 0)
    row_range = table.range r (let e = size_is in omega arith)

    pub row_room : (r < length froms) × (r < length tos)
    row_room = let e = size_is in let a = table.from_room in let b = table.to_room in (omega arith, omega arith)

  -- the bads one after the other: the first j end before row r
  abbrev pub BadsWalked : ℕ → ℕ → Type 0
  BadsWalked = Walked (bad_step (program ws s)) rows bad s.bads

  pub bads_start : BadsInForm ws s → BadsWalked 0 0
  bads_start h = walked_start (bad_step (program ws s)) rows bad s.bads h

  pub bads_stand : (j r : ℕ) → BadsWalked j r → j < s.bads → BadStands (program ws s) rows r
  unfolding bad_end
  bads_stand j r w h = walked_stands (bad_step (program ws s)) rows bad s.bads j r w h

  -- a bad takes a row at least
  pub stands_inside : (r : ℕ) → BadStands (program ws s) rows r → r ≤ s.badrows
  stands_inside r h = let e = size_is in omega (arith, read_takes (bad_step (program ws s)) rows (rows.size - r) r (bad_end (program ws s) rows r) bad [] h)

  pub bads_next : (j r q : ℕ) → BadsWalked j r → j < s.bads → q ≡ bad_end (program ws s) rows r → BadsWalked (j + 1) q
  unfolding bad_end
  bads_next j r q w h e = rw e (walked_next (bad_step (program ws s)) rows bad s.bads j r w h)

  pub bads_inside : (j r : ℕ) → BadsWalked j r → r ≤ s.badrows
  bads_inside j r w = let e = size_is in omega (arith, walked_inside (bad_step (program ws s)) rows bad s.bads j r w)

  pub bads_row : (j r : ℕ) → BadsWalked j r → r ≡ bad_row_of (program ws s) rows j
  unfolding bad_row_of
  bads_row j r w = sym (walked_row (bad_step (program ws s)) rows bad s.bads j r w)
