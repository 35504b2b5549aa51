-- What is still to come at each row when the whole program is read.
use Prim.Native.Nat.{ℕ, zero, suc, ◌+◌, ◌-◌, ◌≤◌, ◌<◌}
use native.Mathlib.Omega.{arith}
use mathlib.Core.Path.{◌≡◌, refl, sym, ◌∙◌}
use mathlib.Core.List.{List, [], ◌∷◌, ◌++◌, append_assoc, append-nil}
use mathlib.Core.Option.{some, none, some-injective}
use Rattle.model.specs.Reader.{first_wrong_of}
use Rattle.model.specs.Rows.{Program, size, tag, num, Item, step, whole, past_items}
use Rattle.model.proofs.Reader.{first_wrong_none}
use Rattle.model.specs.Refusals.{Ahead, at_first, after_row}
use Rattle.model.proofs.Exact.Reading.{ahead_unique, ahead_past}
use Rattle.model.proofs.Parse.Spans.{Spans, spans_past, spans_unique, spans_none, spans_range, spans_split, spans_first}

-- the program's rows fit: refusal 3 does not apply
abbrev pub RowsFit : Program → Type 0
RowsFit p = first_wrong_of (step p) p.rows (whole p) ≡ none

-- the reader of the whole program comes to row r with these items still to come
pub record Reached (p : Program) (items : List Item) (r : ℕ) : Type 0 where
  pub ahead : Ahead (step p) p.rows (whole p) r items

-- the items xs stand from row r up to row e, and `below` is to come behind them
pub record Stands (p : Program) (xs below : List Item) (r e : ℕ) : Type 0 where
  pub reached : Reached p (xs ++ below) r
  pub spans : Spans p xs r e

-- row r, taken by the item x: what it asks for
pub record Row (p : Program) (x : Item) (xs below : List Item) (r e : ℕ) : Type 0 where
  pub within : r < size p
  pub more : List Item
  pub says : step p x (tag p r) (num p r) ≡ some more
  pub rest : Stands p (more ++ xs) below (r + 1) e

-- row s lies in items that end at row e: the item that takes it, and those of the items that come behind
pub record Inside (p : Program) (below : List Item) (s e : ℕ) : Type 0 where
  pub item : Item
  pub items : List Item
  pub stands : Stands p (item ∷ items) below s e

module _ {p : Program} where
  -- at the first row everything is to come
  pub reached_begin : Reached p (whole p) 0
  reached_begin = record { ahead = at_first }

  -- at most one list of items is reached
  pub reached_unique : {xs ys : List Item} {r : ℕ} → Reached p xs r → Reached p ys r → xs ≡ ys
  reached_unique {xs} {ys} {r} h k = ahead_unique (step p) p.rows (whole p) r r xs ys refl h.ahead k.ahead

  -- one row on
  pub reached_next : {item : Item} {items more : List Item} {r : ℕ} → Reached p (item ∷ items) r → step p item (tag p r) (num p r) ≡ some more → Reached p (more ++ items) (r + 1)
  unfolding tag num
  reached_next {item} {items} {more} {r} h goes = record { ahead = after_row r item items more h.ahead goes }

  -- the first row of items
  pub stands_row : {x : Item} {xs below : List Item} {r e : ℕ} → Stands p (x ∷ xs) below r e → Row p x xs below r e
  stands_row {x} {xs} {below} {r} {e} h =
      let f = spans_first h.spans in
      record {
        within = f.below;
        more = f.more;
        says = f.says;
        rest = record { reached = rw append_assoc (reached_next h.reached f.says); spans = f.rest };
      }

  -- an item alone
  pub stands_only : {x : Item} {below : List Item} {r e : ℕ} → Stands p (x ∷ []) below r e → (more : List Item) × (step p x (tag p r) (num p r) ≡ some more) × Stands p more below (r + 1) e
  stands_only h = let f = stands_row h in (f.more, f.says, rw append-nil at f.rest)

  at_in : (n : ℕ) (xs : List Item) {below : List Item} {r s e : ℕ} → s ≡ r + n → s ≤ e → Stands p xs below r e → (us : List Item) × Stands p us below s e
  at_in zero xs {below} {r} {s} {e} z l h = let y : r ≡ s = omega arith in (xs, rw y at h)
  at_in (suc n) [] {below} {r} {s} {e} z l h = let w = spans_unique (spans_none r) h.spans in absurd (omega arith)
  at_in (suc n) (x ∷ xs) {below} {r} {s} {e} z l h = let f = stands_row h in at_in n (f.more ++ xs) (omega arith) l f.rest

  -- at each row of the items, some are left
  stands_at : {xs below : List Item} {r e : ℕ} (s : ℕ) → r ≤ s → s ≤ e → Stands p xs below r e → (us : List Item) × Stands p us below s e
  stands_at {xs} {below} {r} {e} s lo hi h = at_in (s - r) xs (omega arith) hi h

  one_left : (us : List Item) {below : List Item} {s e : ℕ} → s < e → Stands p us below s e → Inside p below s e
  one_left [] {below} {s} {e} l h = let w = spans_unique (spans_none s) h.spans in absurd (omega arith)
  one_left (u ∷ us) l h = record { item = u; items = us; stands = h }

  -- where the items end, what is below them is reached
  pub stands_past : {xs below : List Item} {r e : ℕ} → Stands p xs below r e → Reached p below e
  stands_past {xs} {below} {r} {e} h =
      record { ahead = ahead_past (step p) p.rows (whole p) (size p - r) r e xs below h.reached.ahead h.spans.reads }

  -- Nesting: a row inside items is taken by an item of theirs.
  pub stands_inside : {xs below : List Item} {r e : ℕ} (s : ℕ) → r ≤ s → s < e → Stands p xs below r e → Inside p below s e
  stands_inside {xs} {below} {r} {e} s lo hi h = let (us, k) = stands_at s lo (omega arith) h in one_left us hi k

  -- items one after the other
  pub stands_split : (xs : List Item) {ys below : List Item} {r e : ℕ} → Stands p (xs ++ ys) below r e → (m : ℕ) × Stands p xs (ys ++ below) r m × Stands p ys below m e
  stands_split xs {ys} {below} {r} {e} h =
      let (m, first, others) = spans_split xs h.spans in
      let k : Stands p xs (ys ++ below) r m = record { reached = rw append_assoc at h.reached; spans = first } in
      (m, k, record { reached = stands_past k; spans = others })

  -- the item in front
  pub stands_front : {x : Item} {xs below : List Item} {r e : ℕ} → Stands p (x ∷ xs) below r e → (m : ℕ) × Stands p (x ∷ []) (xs ++ below) r m × (m ≤ e)
  stands_front {x} h =
      let (m, front, others) = stands_split (x ∷ []) h in
      (m, front, (spans_range others.spans).0)

  -- the item in front is one, and ends at one row
  pub stands_item : {x y : Item} {xs ys below below' : List Item} {r e e' : ℕ} → Stands p (x ∷ xs) below r e → Stands p (y ∷ ys) below' r e' → x ≡ y
  stands_item h k = let z = reached_unique h.reached k.reached in cc

  pub stands_within : {x y : Item} {xs below below' : List Item} {r m e : ℕ} → Stands p (y ∷ []) below' r m → Stands p (x ∷ xs) below r e → m ≤ e
  stands_within {x} {y} {xs} {below} {below'} {r} {m} {e} k h =
      let z : x ≡ y = stands_item h k in
      let (m', front, upto) = stands_front (rw z at h) in
      let same = spans_unique k.spans front.spans in
      omega arith

-- In a program whose rows fit:

module _ {p : Program} (fit : RowsFit p) where
  ahead_spans : (r : ℕ) (items : List Item) → Ahead (step p) p.rows (whole p) r items → Spans p items r (size p)
  unfolding tag num
  ahead_spans r items at_first =
      let z : size p - 0 ≡ size p = omega arith in
      record { reads = rw z (first_wrong_none (step p) p.rows (whole p) fit) }
  ahead_spans r' items' (after_row r item items more a says) =
      let f = spans_first (ahead_spans r (item ∷ items) a) in
      rw (some-injective f.more more (sym f.says ∙ says)) at f.rest

  -- from each row that is reached, reading goes on to the end
  pub reached_spans : (r : ℕ) {items : List Item} → Reached p items r → Spans p items r (size p)
  reached_spans r {items} h = ahead_spans r items h.ahead

  -- items that are reached stand up to some row
  pub reached_stands : (xs : List Item) {below : List Item} {r : ℕ} → Reached p (xs ++ below) r → (e : ℕ) × Stands p xs below r e
  reached_stands xs {below} {r} h =
      let (e, first, others) = spans_split xs (reached_spans r h) in
      (e, record { reached = h; spans = first })

  -- ... which is the row after them; what is below them is reached there, within the program
  pub reached_past : (xs : List Item) {below : List Item} {r : ℕ} → Reached p (xs ++ below) r → Reached p below (past_items p xs r) × (r ≤ past_items p xs r) × (past_items p xs r ≤ size p)
  reached_past xs {below} {r} h =
      let (e, s) = reached_stands xs h in
      let z = spans_past s.spans in
      let w = spans_range s.spans in
      let v = spans_range (reached_spans e (stands_past s)) in
      (rw z (stands_past s), omega arith, omega arith)

  -- the whole program stands from its first row up to its end
  pub whole_stands : Stands p (whole p) [] 0 (size p)
  whole_stands = record { reached = let z = append-nil (whole p) in rw z reached_begin; spans = reached_spans 0 reached_begin }

  -- each row is taken by an item
  pub row_taken : (r : ℕ) → r < size p → (item : Item) × (below : List Item) × (e : ℕ) × Stands p (item ∷ []) below r e
  row_taken r l =
      let i = stands_inside r (omega arith) l whole_stands in
      let (m, front, upto) = stands_front i.stands in
      (i.item, i.items ++ [], m, front)
