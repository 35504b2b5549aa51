-- Items that stand from one row of a program up to another: the laws of proofs/Reader.antt for the grammar of programs.
use Prim.Native.Nat.{ℕ, suc, ◌+◌, ◌-◌, ◌≤◌, ◌<◌}
use native.Mathlib.Omega.{arith}
use mathlib.Core.Path.{◌≡◌, sym, ◌∙◌}
use mathlib.Core.List.{List, [], ◌∷◌, ◌++◌}
use mathlib.Core.Option.{some}
use lib.ListN.{length}
use Rattle.model.specs.Reader.{past, read}
use Rattle.model.specs.Rows.{Program, size, tag, num, Item, step, past_items}
use Rattle.model.proofs.Reader.{past_wrong, past_row, by_option, read_none, read_stop, read_go, read_range, read_takes, read_append, read_split, after_past}

-- the items stand from row r up to row e
pub record Spans (p : Program) (items : List Item) (r e : ℕ) : Type 0 where
  pub reads : read (step p) p.rows (size p - r) items r ≡ past e

-- the item that takes row r, and what the row asks for
pub record FirstRow (p : Program) (item : Item) (items : List Item) (r e : ℕ) : Type 0 where
  pub below : r < size p
  pub more : List Item
  pub says : step p item (tag p r) (num p r) ≡ some more
  pub rest : Spans p (more ++ items) (r + 1) e

module _ {p : Program} where
  -- the row after the items
  pub spans_past : {items : List Item} {r e : ℕ} → Spans p items r e → past_items p items r ≡ e
  unfolding past_items
  spans_past {items} {r} {e} h = after_past (step p) p.rows r e items h.reads

  -- which is one row, not before the first, and behind it where there is an item
  pub spans_unique : {items : List Item} {r e e' : ℕ} → Spans p items r e → Spans p items r e' → e ≡ e'
  spans_unique {e} {e'} h h' = past_row e e' (sym h.reads ∙ h'.reads)

  pub spans_none : (r : ℕ) → Spans p [] r r
  spans_none r = record { reads = read_none (step p) p.rows (size p - r) r }

  pub spans_range : {items : List Item} {r e : ℕ} → Spans p items r e → (r ≤ e) × (e ≤ r + (size p - r))
  spans_range {items} {r} {e} h = read_range (step p) p.rows (size p - r) r e items h.reads

  pub spans_takes : {item : Item} {items : List Item} {r e : ℕ} → Spans p (item ∷ items) r e → (r < e) × (e ≤ size p)
  spans_takes {item} {items} {r} {e} h =
      let w = read_takes (step p) p.rows (size p - r) r e item items h.reads in
      (w.0, omega arith)

  -- items one after the other
  pub spans_split : (xs : List Item) {ys : List Item} {r e : ℕ} → Spans p (xs ++ ys) r e → (m : ℕ) × Spans p xs r m × Spans p ys m e
  spans_split xs {ys} {r} {e} h =
      let s = read_split (step p) p.rows (size p - r) r e xs ys h.reads in
      let w = read_range (step p) p.rows (size p - r) r s.at xs s.first in
      let z : size p - r - (s.at - r) ≡ size p - s.at = omega arith in
      (s.at, record { reads = s.first }, record { reads = rw z at s.second })

  pub spans_join : {xs ys : List Item} {r m e : ℕ} → Spans p xs r m → Spans p ys m e → Spans p (xs ++ ys) r e
  spans_join {xs} {ys} {r} {m} {e} h k =
      let w = spans_range h in
      let z : size p - r - (m - r) ≡ size p - m = omega arith in
      record { reads = read_append (step p) p.rows (size p - r) r m xs ys h.reads ∙ rw z k.reads }

  -- the first item takes the first row
  pub spans_first : {item : Item} {items : List Item} {r e : ℕ} → Spans p (item ∷ items) r e → FirstRow p item items r e
  unfolding tag num
  spans_first {item} {items} {r} {e} h =
      let w = spans_takes h in
      let z : size p - r ≡ suc (size p - (r + 1)) = omega arith in
      let k : read (step p) p.rows (suc (size p - (r + 1))) (item ∷ items) r ≡ past e = rw z at h.reads in
      by_option (step p item (tag p r) (num p r))
      (λ stops. past_wrong e r (sym k ∙ read_stop (step p) p.rows (size p - (r + 1)) r item items stops))
      (λ more goes. record {
        below = omega arith;
        more = more;
        says = goes;
        rest = record { reads = sym (read_go (step p) p.rows (size p - (r + 1)) r item items more goes) ∙ k };
      })

  -- each item takes a row at least
  pub spans_length : (xs : List Item) {r e : ℕ} → Spans p xs r e → r + length xs ≤ e
  spans_length [] {r} {e} h = let w = spans_range h in omega arith
  spans_length (x ∷ xs) {r} {e} h =
      let (m, first, rest) = spans_split (x ∷ []) h in
      let w = spans_takes first in
      let l = spans_length xs rest in
      omega arith
