-- Laws of reading from a row on, as the readers of the code need them: one row, items one after the other, and where they end.
use Prim.Native.Nat.{ℕ, zero, suc, ◌+◌, ◌-◌, ◌≤◌, ◌<◌}
use native.Mathlib.Decide.{dec_lt}
use native.Mathlib.Omega.{arith}
use mathlib.Core.Path.{◌≡◌, refl, sym, ◌∙◌, ap, ap₂}
use mathlib.Core.Bool.{Bool, true, false}
use mathlib.Core.List.{List, [], ◌∷◌, ◌++◌, append-nil}
use mathlib.Core.Option.{Option, some, none, some-ne-none, map}
use lib.ListN.{replicate}
use lib.Dec.{leb}
use borrow.Author.Tests.{eq-eqb, ne_eqb}
use Rattle.std.proofs.Common.{Result, Ok, Err}
use Rattle.model.specs.declared.Sizes.{Sizes}
use Rattle.model.specs.declared.Verdict.TheVariants.{Row}
use Rattle.model.specs.Verify.{outcome}
use Rattle.model.specs.Limits.{max_depth}
use Rattle.model.specs.Words.{left, right, columns}
use Rattle.model.specs.Reader.{Read, past, wrong, fits, read, complete, first_wrong_of}
use Rattle.model.specs.Rows.{Program, program, size, tag, num, kind, Item, constructor, global, header, parameter, expression, made, operand, arguments, branches, pattern, branch, branch_items, whole, row_check_of, step, expression_step, pattern_step}
use Rattle.model.proofs.Logic.{test}
use Rattle.model.proofs.Reader.{read_none, read_end, read_stop, read_go, read_range, read_takes, read_wrong_range, read_append, read_append_wrong}
use Rattle.program.specs.declared.readers.WrongRow.{WrongRow}
use Rattle.program.specs.Rows.{reading, from}
use Rattle.program.proofs.Columns.{part_past}

-- what an answer says, both ways
pub past_answer : {y : Read} (q : ℕ) → y ≡ past q → reading (Ok q) ≡ y
unfolding reading
past_answer q e = sym e

pub wrong_answer : {y : Read} (w : WrongRow) → y ≡ wrong w.0 → reading (Err w) ≡ y
unfolding reading
wrong_answer w e = sym e

pub came_past : {y : Read} (x : Result ℕ WrongRow) (q : ℕ) → reading x ≡ y → x ≡ Ok q → y ≡ past q
unfolding reading
came_past x q h e = sym h ∙ ap reading e

pub came_wrong : {y : Read} (x : Result ℕ WrongRow) (w : WrongRow) → reading x ≡ y → x ≡ Err w → y ≡ wrong w.0
unfolding reading
came_wrong x w h e = sym h ∙ ap reading e

-- a row that a `?` hands on
pub handed_on : {y : Read} (x : Result ℕ WrongRow) (w : WrongRow) → x ≡ Err w → y ≡ wrong w.0 → reading x ≡ y
handed_on x w h e = ap reading h ∙ wrong_answer w e

-- by a test that the code has made
pub yes_fits : {b : Bool} (more : List Item) → b ≡ true → fits b more ≡ some more
unfolding fits
yes_fits more e = ap (λ b. fits b more) e

pub no_fits : {b : Bool} (more : List Item) → b ≡ false → fits b more ≡ none
unfolding fits
no_fits more e = ap (λ b. fits b more) e

-- a row past the end: no item takes it
step_zero : (p : Program) (item : Item) → step p item 0 0 ≡ none
unfolding step fits expression_step pattern_step kind
step_zero p constructor = refl
step_zero p global = refl
step_zero p header = refl
step_zero p parameter = refl
step_zero p expression = refl
step_zero p made = refl
step_zero p operand = refl
step_zero p arguments = refl
step_zero p branches = refl
step_zero p (pattern d) = test (leb 1 d) (λ e. rw e) (λ e. rw e)

module _ (p : Program) where
  pub from_none : (r : ℕ) → from p [] r ≡ past r
  unfolding from
  from_none r = read_none (step p) p.rows (size p - r) r

  -- the row does not fit
  pub from_stop : (item : Item) (items : List Item) (r : ℕ) → step p item (tag p r) (num p r) ≡ none → from p (item ∷ items) r ≡ wrong r
  unfolding from tag num
  from_stop item items r h = elim (dec_lt r (size p)) [
    | yes a ↦ let z : size p - r ≡ suc (size p - (r + 1)) = omega arith in rw z (read_stop (step p) p.rows (size p - (r + 1)) r item items h)
    | no a ↦ let z : size p - r ≡ zero = omega arith in rw z (read_end (step p) p.rows item items r)
  ]

  -- the row fits, and asks for more
  pub from_go : (item : Item) (items more : List Item) (r : ℕ) → r < size p → step p item (tag p r) (num p r) ≡ some more → from p (item ∷ items) r ≡ from p (more ++ items) (r + 1)
  unfolding from tag num
  from_go item items more r a h =
      let z : size p - r ≡ suc (size p - (r + 1)) = omega arith in
      rw z (read_go (step p) p.rows (size p - (r + 1)) r item items more h)

  -- where items end
  pub from_range : (items : List Item) (r q : ℕ) → r ≤ size p → from p items r ≡ past q → (r ≤ q) × (q ≤ size p)
  unfolding from
  from_range items r q a h = let w = read_range (step p) p.rows (size p - r) r q items h in (omega arith, omega arith)

  pub from_takes : (item : Item) (items : List Item) (r q : ℕ) → r ≤ size p → from p (item ∷ items) r ≡ past q → (r < q) × (q ≤ size p)
  unfolding from
  from_takes item items r q a h = let w = read_takes (step p) p.rows (size p - r) r q item items h in (omega arith, omega arith)

  pub from_wrong_range : (items : List Item) (r q : ℕ) → r ≤ size p → from p items r ≡ wrong q → (r ≤ q) × (q ≤ size p)
  unfolding from
  from_wrong_range items r q a h = let w = read_wrong_range (step p) p.rows (size p - r) r q items h in (omega arith, omega arith)

  -- items, and then others
  pub from_append : (xs ys : List Item) (r q : ℕ) → from p xs r ≡ past q → from p (xs ++ ys) r ≡ from p ys q
  unfolding from
  from_append xs ys r q h =
      let w = read_range (step p) p.rows (size p - r) r q xs h in
      let z : size p - r - (q - r) ≡ size p - q = omega arith in
      read_append (step p) p.rows (size p - r) r q xs ys h ∙ ap (λ n. read (step p) p.rows n ys q) z

  pub from_append_wrong : (xs ys : List Item) (r q : ℕ) → from p xs r ≡ wrong q → from p (xs ++ ys) r ≡ wrong q
  unfolding from
  from_append_wrong xs ys r q h = read_append_wrong (step p) p.rows (size p - r) r q xs ys h

  -- a list of items of one kind, by its first
  pub replicate_past : (item : Item) (n m r q : ℕ) → n ≡ suc m → from p (item ∷ []) r ≡ past q → from p (replicate n item) r ≡ from p (replicate m item) q
  replicate_past item n m r q h e = rw h (from_append (item ∷ []) (replicate m item) r q e)

  pub replicate_wrong : (item : Item) (n r q : ℕ) → 0 < n → from p (item ∷ []) r ≡ wrong q → from p (replicate n item) r ≡ wrong q
  replicate_wrong item zero r q h e = absurd (omega arith)
  replicate_wrong item (suc n) r q h e = from_append_wrong (item ∷ []) (replicate n item) r q e

  pub replicate_none : (item : Item) (n r : ℕ) → n ≤ 0 → from p (replicate n item) r ≡ past r
  replicate_none item zero r h = from_none r
  replicate_none item (suc n) r h = absurd (omega arith)

  -- the same list, by an equal length
  pub replicate_by : (item : Item) (n m r : ℕ) → n ≡ m → from p (replicate n item) r ≡ from p (replicate m item) r
  replicate_by item n m r e = ap (λ k. from p (replicate k item) r) e

  -- branches, by the first
  branches_first : (n m r : ℕ) → n ≡ suc m → from p (branch_items n) r ≡ from p (branch ++ branch_items m) r
  unfolding branch_items
  branches_first n m r h = rw h refl

  pub branches_past : (n m r e q : ℕ) → n ≡ suc m → from p (pattern max_depth ∷ []) r ≡ past e → from p (expression ∷ []) e ≡ past q → from p (branch_items n) r ≡ from p (branch_items m) q
  branches_past n m r e q h f g =
      branches_first n m r h ∙
      (from_append (pattern max_depth ∷ []) (expression ∷ branch_items m) r e f ∙ from_append (expression ∷ []) (branch_items m) e q g)

  pub branches_no_pattern : (n m r q : ℕ) → n ≡ suc m → from p (pattern max_depth ∷ []) r ≡ wrong q → from p (branch_items n) r ≡ wrong q
  branches_no_pattern n m r q h f = branches_first n m r h ∙ from_append_wrong (pattern max_depth ∷ []) (expression ∷ branch_items m) r q f

  pub branches_no_body : (n m r e q : ℕ) → n ≡ suc m → from p (pattern max_depth ∷ []) r ≡ past e → from p (expression ∷ []) e ≡ wrong q → from p (branch_items n) r ≡ wrong q
  branches_no_body n m r e q h f g =
      branches_first n m r h ∙
      (from_append (pattern max_depth ∷ []) (expression ∷ branch_items m) r e f ∙ from_append_wrong (expression ∷ []) (branch_items m) e q g)

  pub branches_none : (n r : ℕ) → n ≤ 0 → from p (branch_items n) r ≡ past r
  unfolding branch_items
  branches_none zero r h = from_none r
  branches_none (suc n) r h = absurd (omega arith)

  -- other items that are the same
  pub items_by : {xs ys : List Item} (r : ℕ) → xs ≡ ys → from p xs r ≡ from p ys r
  items_by r e = ap (λ l. from p l r) e

  -- a reader's answer, and the items behind it
  pub then_past : (xs ys : List Item) (x : Result ℕ WrongRow) (r q : ℕ) → reading x ≡ from p xs r → x ≡ Ok q → from p (xs ++ ys) r ≡ from p ys q
  then_past xs ys x r q h e = from_append xs ys r q (came_past x q h e)

  pub then_wrong : (xs ys : List Item) (x : Result ℕ WrongRow) (r : ℕ) (w : WrongRow) → reading x ≡ from p xs r → x ≡ Err w → from p (xs ++ ys) r ≡ wrong w.0
  then_wrong xs ys x r w h e = from_append_wrong xs ys r w.0 (came_wrong x w h e)

-- the program of a message: a row that an item takes is there
module _ (ws : List ℕ) (s : Sizes) where
  pub past_tag : (r : ℕ) → s.rows ≤ r → tag (program ws s) r ≡ 0
  unfolding program tag left columns
  past_tag r h = sym (part_past ws s.rows 4 r h)

  past_num : (r : ℕ) → s.rows ≤ r → num (program ws s) r ≡ 0
  unfolding program num right columns
  past_num r h = sym (part_past ws s.rows (4 + s.rows) r h)

  pub there : (item : Item) (more : List Item) (r : ℕ) → step (program ws s) item (tag (program ws s) r) (num (program ws s) r) ≡ some more → r < s.rows
  there item more r h = elim (dec_lt r s.rows) [
    | yes a ↦ a
    | no a ↦ absurd (some-ne-none more (sym h ∙ (ap₂ (step (program ws s) item) (past_tag r (omega arith)) (past_num r (omega arith)) ∙ step_zero (program ws s) item)))
  ]

  -- what the item says to row r
  abbrev says : Item → ℕ → Option (List Item)
  says item r = step (program ws s) item (tag (program ws s) r) (num (program ws s) r)

  -- by the code's test b of the row: it fits and asks for more, or it does not
  pub go : (item : Item) (more : List Item) {b c : Bool} (r : ℕ) → says item r ≡ fits c more → b ≡ c → b ≡ true → (r < s.rows) × (from (program ws s) (item ∷ []) r ≡ from (program ws s) more (r + 1))
  unfolding fits program columns
  go item more {b} {c} r h e t =
      let k : says item r ≡ some more = h ∙ ap (λ d. fits d more) (sym e ∙ t) in
      let w = there item more r k in
      (w, from_go (program ws s) item [] more r w k ∙ ap (λ l. from (program ws s) l (r + 1)) (append-nil more))

  -- the same, where what it asks for goes by the row's number, which the code has read
  pub go_on : (item : Item) (more : ℕ → List Item) {b c : Bool} (r : ℕ) → says item r ≡ fits c (more (num (program ws s) r)) → b ≡ c → b ≡ true → (r < s.rows) × ((n : ℕ) → n ≡ num (program ws s) r → from (program ws s) (item ∷ []) r ≡ from (program ws s) (more n) (r + 1))
  go_on item more {b} {c} r h e t =
      let (w, k) = go item (more (num (program ws s) r)) {b = b} {c = c} r h e t in
      (w, λ n z. k ∙ ap (λ m. from (program ws s) (more m) (r + 1)) (sym z))

  pub stop : (item : Item) (more : List Item) {b c : Bool} (r : ℕ) → says item r ≡ fits c more → b ≡ c → b ≡ false → from (program ws s) (item ∷ []) r ≡ wrong r
  unfolding fits
  stop item more {b} {c} r h e t = from_stop (program ws s) item [] r (h ∙ ap (λ d. fits d more) (sym e ∙ t))

  -- by the tag and the number that the code has read
  pub takes_row : (item : Item) (more : List Item) (r t n : ℕ) → t ≡ tag (program ws s) r → n ≡ num (program ws s) r → step (program ws s) item t n ≡ some more → (r < s.rows) × (from (program ws s) (item ∷ []) r ≡ from (program ws s) more (r + 1))
  unfolding program columns
  takes_row item more r t n e f h =
      let k : says item r ≡ some more = ap₂ (step (program ws s) item) (sym e) (sym f) ∙ h in
      let w = there item more r k in
      (w, from_go (program ws s) item [] more r w k ∙ ap (λ l. from (program ws s) l (r + 1)) (append-nil more))

  pub last_row : (item : Item) (r t n : ℕ) → t ≡ tag (program ws s) r → n ≡ num (program ws s) r → step (program ws s) item t n ≡ some [] → reading (Ok (r + 1)) ≡ from (program ws s) (item ∷ []) r
  last_row item r t n e f h = past_answer (r + 1) ((takes_row item [] r t n e f h).1 ∙ from_none (program ws s) (r + 1))

  pub refuses_row : (item : Item) (r t n : ℕ) → t ≡ tag (program ws s) r → n ≡ num (program ws s) r → step (program ws s) item t n ≡ none → reading (Err record { 0 = r }) ≡ from (program ws s) (item ∷ []) r
  refuses_row item r t n e f h = wrong_answer record { 0 = r } (from_stop (program ws s) item [] r (ap₂ (step (program ws s) item) (sym e) (sym f) ∙ h))

  -- an item of one row
  pub one_row : (item : Item) {b c : Bool} (r : ℕ) → says item r ≡ fits c [] → b ≡ c → b ≡ true → (r < s.rows) × (from (program ws s) (item ∷ []) r ≡ past (r + 1))
  one_row item {b} {c} r h e t = let (w, k) = go item [] {b = b} {c = c} r h e t in (w, k ∙ from_none (program ws s) (r + 1))

  -- a list of such items, by the test of its first row
  pub rows_turn : (item : Item) {b c : Bool} (n m r : ℕ) → n ≡ suc m → says item r ≡ fits c [] → b ≡ c → b ≡ true → (r < s.rows) × (from (program ws s) (replicate n item) r ≡ from (program ws s) (replicate m item) (r + 1))
  rows_turn item {b} {c} n m r a h e t =
      let (w, k) = one_row item {b = b} {c = c} r h e t in
      (w, replicate_past (program ws s) item n m r (r + 1) a k)

  pub rows_halt : (item : Item) {b c : Bool} (n r : ℕ) → 0 < n → says item r ≡ fits c [] → b ≡ c → b ≡ false → from (program ws s) (replicate n item) r ≡ wrong r
  rows_halt item {b} {c} n r a h e t = replicate_wrong (program ws s) item n r r a (stop item [] {b = b} {c = c} r h e t)

  -- where a reader's answer lies
  pub past_upto : (xs : List Item) (x : Result ℕ WrongRow) (r q : ℕ) → r ≤ s.rows → reading x ≡ from (program ws s) xs r → x ≡ Ok q → (r ≤ q) × (q ≤ s.rows)
  unfolding program columns
  past_upto xs x r q a h e = from_range (program ws s) xs r q a (came_past x q h e)

  pub past_behind : (item : Item) (xs : List Item) (x : Result ℕ WrongRow) (r q : ℕ) → r ≤ s.rows → reading x ≡ from (program ws s) (item ∷ xs) r → x ≡ Ok q → (r < q) × (q ≤ s.rows)
  unfolding program columns
  past_behind item xs x r q a h e = from_takes (program ws s) item xs r q a (came_past x q h e)

  pub wrong_upto : (xs : List Item) (x : Result ℕ WrongRow) (r : ℕ) (w : WrongRow) → r ≤ s.rows → reading x ≡ from (program ws s) xs r → x ≡ Err w → (r ≤ w.0) × (w.0 ≤ s.rows)
  unfolding program columns
  wrong_upto xs x r w a h e = from_wrong_range (program ws s) xs r w.0 a (came_wrong x w h e)

  -- refusal 3, by the reading of the whole program
  checked : (y : Read) → from (program ws s) (whole (program ws s)) 0 ≡ y → row_check_of (program ws s) ≡ map (λ r. Row (4 + r)) (complete s.rows y)
  unfolding from program columns row_check_of first_wrong_of
  checked y h = let z : s.rows - 0 ≡ s.rows = omega arith in ap (λ x. map (λ r. Row (4 + r)) (complete s.rows x)) ((rw z at h))

  pub rows_pass : (x : Result ℕ WrongRow) (r : ℕ) → reading x ≡ from (program ws s) (whole (program ws s)) 0 → x ≡ Ok r → r ≡ s.rows → Ok tt ≡ outcome (row_check_of (program ws s))
  unfolding complete outcome
  rows_pass x r h e f = sym (ap outcome (checked (past r) (came_past x r h e)) ∙ rw (eq-eqb r s.rows f, complete))

  pub rows_left : (x : Result ℕ WrongRow) (r : ℕ) → reading x ≡ from (program ws s) (whole (program ws s)) 0 → x ≡ Ok r → (r ≡ s.rows → ⊥) → Err (Row (4 + r)) ≡ outcome (row_check_of (program ws s))
  unfolding complete outcome
  rows_left x r h e f = sym (ap outcome (checked (past r) (came_past x r h e)) ∙ rw (ne_eqb r s.rows f, complete))

  pub row_wrong : (x : Result ℕ WrongRow) (w : WrongRow) → reading x ≡ from (program ws s) (whole (program ws s)) 0 → x ≡ Err w → Err (Row (4 + w.0)) ≡ outcome (row_check_of (program ws s))
  unfolding complete outcome
  row_wrong x w h e = sym (ap outcome (checked (wrong w.0) (came_wrong x w h e)))
