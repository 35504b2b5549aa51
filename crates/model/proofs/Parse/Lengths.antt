-- The lists of names at a head are as long as the rows say, and what a row builds has a constructor.
use Prim.Native.Nat.{ℕ, ◌+◌, ◌≤◌, ◌<◌}
use native.Mathlib.Omega.{arith}
use mathlib.Core.Path.{◌≡◌, ◌∙◌, ap}
use mathlib.Core.Bool.{true}
use mathlib.Core.List.{List, [], ◌∷◌, ◌++◌}
use mathlib.Core.Logic.{⊎_elim}
use lib.ListN.{length, get_or, drop, replicate, length-append, length-replicate, length-take, length-drop}
use lib.Seq.{get_or-take, get_or-drop}
use lib.Dec.{eqb}
use borrow.Author.Tests.{ltb-true}
use Rattle.model.specs.Words.{right}
use Rattle.model.specs.Rows.{Program, size, tag, num, kind, build, call, is_head_of, Item, parameter, expression, made, operand, lead, arity, step}
use Rattle.model.specs.Heads.{nums, call_at, is_function, parameters}
use Rattle.model.proofs.Logic.{and_right}
use Rattle.model.proofs.Rows.{row_inside}
use Rattle.model.proofs.Parse.Spans.{Spans, spans_length, spans_takes}
use Rattle.model.proofs.Parse.Reached.{RowsFit, Row, stands_row}
use Rattle.model.proofs.Parse.Grammar.{fits_some, fits_tag}
use Rattle.model.proofs.Parse.Locations.{Location, location_follows, head_range, head_location}
use Rattle.model.proofs.Parse.Functions.{FunctionForm, function_tag}

-- the two columns hold a row each for R
pub record ColumnsWhole (p : Program) : Type 0 where
  pub tags : length p.rows.lefts ≡ size p
  pub numbers : length p.rows.rights ≡ size p

module _ {p : Program} (w : ColumnsWhole p) where
  -- a row with a tag is one of the program's
  pub row_within : (r : ℕ) → 0 < tag p r → r < size p
  row_within r h = let z = w.tags in row_inside p (omega arith) r h

  -- n numbers of the program's rows are n
  pub nums_length : (r n : ℕ) → r + n ≤ size p → length (nums p r n) ≡ n
  unfolding nums
  nums_length r n h = let z = w.numbers in simp (length-take, length-drop) (omega arith)

-- the number with index i of those from row r on
pub nums_at : (p : Program) (r n i : ℕ) → i < n → get_or (nums p r n) i 0 ≡ num p (r + i)
unfolding nums num right
nums_at p r n i h = get_or-take n (drop r p.rows.rights) i 0 h ∙ get_or-drop r p.rows.rights i 0

-- a row that asks for n items of one sort has n rows behind it
counted : {p : Program} {x : Item} {xs below : List Item} {r e : ℕ} (n : ℕ) (y : Item) (g : Row p x xs below r e) → replicate n y ≡ g.more → r + 1 + n ≤ e
counted {p} {x} {xs} {below} {r} {e} n y g same =
    let s : Spans p (replicate n y ++ xs) (r + 1) e = rw same g.rest.spans in
    let l = simp (length-append, length-replicate) at (spans_length (replicate n y ++ xs) s) in
    omega arith

-- a row with a tag from 1 to 9 is a head
pub row_location : {p : Program} → RowsFit p → ColumnsWhole p → (r : ℕ) → is_head_of (tag p r) ≡ true → Location p r
row_location {p} fit w r h = head_location fit (row_within w r (head_range (tag p r) h).0) h

-- behind a build stands the row of its constructor
build_row : {p : Program} {r : ℕ} (l : Location p r) → tag p r ≡ 2 → Row p made (expression ∷ []) l.below (r + 1) l.end
unfolding lead kind
build_row {p} {r} l t = let k : kind (tag p r) ≡ build = rw t in stands_row (rw k at (location_follows l))

pub built_below : (p : Program) → RowsFit p → (v : ℕ) → v < size p → tag p v ≡ 2 → num p (v + 1) < p.constructors
unfolding step is_head_of
built_below p fit v h t =
    let row = build_row (head_location fit h (rw t)) t in
    ltb-true _ _ (and_right (eqb (tag p (v + 1)) 20) _ (fits_some _ _ row.more row.says).0)

-- a function is one of the program's rows
pub function_within : {p : Program} → ColumnsWhole p → (f : ℕ) → is_function p f ≡ true → f < size p
function_within {p} w f h = row_within w f (⊎_elim (λ t. omega arith) (λ t. omega arith) (function_tag p f h))

module _ {p : Program} (w : ColumnsWhole p) where
  -- a call's arguments, a build's arguments, a function's parameters
  pub call_length : {r : ℕ} → Location p r → tag p r ≡ 4 → length (call_at p r).arguments ≡ (call_at p r).count
  unfolding lead kind call_at step
  call_length {r} l t =
      let k : kind (tag p r) ≡ call = rw t in
      let callee = stands_row (rw k at (location_follows l)) in
      let (t₁, same₁) = fits_tag (tag p (r + 1)) 21 _ [] callee.more callee.says in
      let count = stands_row (rw (← same₁) at callee.rest) in
      let (t₂, same₂) = fits_tag (tag p (r + 1 + 1)) 22 _ (replicate (num p (r + 1 + 1)) operand) count.more count.says in
      let fit = counted (num p (r + 1 + 1)) operand count same₂ in
      let two : r + 1 + 1 ≡ r + 2 = omega arith in
      let v = spans_takes l.stands.spans in
      nums_length w (r + 3) (num p (r + 2)) (omega (arith, ap (num p) two))

  pub build_length : {r : ℕ} → Location p r → tag p r ≡ 2 → length (nums p (r + 2) (arity p (num p (r + 1)))) ≡ arity p (num p (r + 1))
  unfolding step
  build_length {r} l t =
      let row = build_row l t in
      let (t₁, same₁) = fits_tag (tag p (r + 1)) 20 _ (replicate (arity p (num p (r + 1))) operand) row.more row.says in
      let fit = counted (arity p (num p (r + 1))) operand row same₁ in
      let v = spans_takes l.stands.spans in
      nums_length w (r + 2) (arity p (num p (r + 1))) (omega arith)

  pub parameters_length : {f e : ℕ} → FunctionForm p f e → length (parameters p f) ≡ num p (f + 1)
  unfolding parameters step
  parameters_length {f} {e} g =
      let head = stands_row g.form in
      let (t₁, same₁) = fits_tag (tag p (f + 1)) 22 _ (replicate (num p (f + 1)) parameter) head.more head.says in
      let fit = counted (num p (f + 1)) parameter head same₁ in
      let v = spans_takes g.form.spans in
      nums_length w (f + 2) (num p (f + 1)) (omega arith)
