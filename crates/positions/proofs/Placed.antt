-- The positions of a message that is ready, from the numbers that the code reads.
use Prim.Native.Nat.{ℕ, ◌+◌, ◌≤◌, ◌<◌}
use native.Mathlib.Omega.{arith}
use mathlib.Core.Path.{◌≡◌, sym, ◌∙◌}
use mathlib.Core.Bool.{true, false}
use mathlib.Core.List.{List}
use mathlib.Core.Logic.{◌⊎◌, inl, inr, ⊎_elim}
use lib.Dec.{eqb}
use borrow.Author.Tests.{ne_eqb}
use Rattle.model.specs.Limits.{max_rows}
use Rattle.model.specs.declared.Sizes.{Sizes}
use Rattle.model.specs.Words.{columns}
use Rattle.model.specs.Rows.{Program, program, size, tag, num, is_head_of}
use Rattle.model.specs.Heads.{is_function, body, takes}
use Rattle.model.proofs.Numbering.Counters.{tag_inside}
use Rattle.model.proofs.Parse.Locations.{head_range}
use Rattle.model.proofs.Parse.Lengths.{row_within, function_within}
use Rattle.lists.specs.Ready.{Ready}
use Rattle.lists.proofs.Facts.{rows_fit, columns_whole}
use Rattle.positions.proofs.Standing.{body_row}

-- tests by the tag that was read
module _ (p : Program) (f x : ℕ) (same : x ≡ tag p f) where
  pub function_yes : (x ≡ 3) ⊎ (x ≡ 11) → is_function p f ≡ true
  unfolding is_function
  function_yes (inl e) = rw (sym same ∙ e)
  function_yes (inr e) = rw (sym same ∙ e)

  function_no : ((x ≡ 3) ⊎ (x ≡ 11) → ⊥) → is_function p f ≡ false
  unfolding is_function
  function_no ne = rw (ne_eqb (tag p f) 3 (λ e. ne (inl (same ∙ e))), ne_eqb (tag p f) 11 (λ e. ne (inr (same ∙ e))))

  pub takes_yes : (m n : ℕ) → (x ≡ 3) ⊎ (x ≡ 11) → m ≡ num p (f + 1) → eqb m n ≡ takes p f n
  unfolding takes
  takes_yes m n h e = rw (e, function_yes h)

  pub takes_no : (n : ℕ) → ((x ≡ 3) ⊎ (x ≡ 11) → ⊥) → false ≡ takes p f n
  unfolding takes
  takes_no n h = rw (function_no h)

-- a function's row is one of the rows
pub function_row : (ws : List ℕ) (s : Sizes) (f x : ℕ) → s.rows ≤ max_rows → x ≡ tag (program ws s) f → (x ≡ 3) ⊎ (x ≡ 11) → f < max_rows
unfolding program columns
function_row ws s f x most same h =
    let inside : 1 ≤ x → f < s.rows = λ l. tag_inside ws s f (omega arith) in
    ⊎_elim (λ e. let z = inside (omega arith) in omega arith) (λ e. let z = inside (omega arith) in omega arith) h

module _ {ws : List ℕ} {s : Sizes} (h : Ready ws s) where
  -- there are no more rows than the limit
  pub rows_most : size (program ws s) ≤ max_rows
  unfolding program columns
  rows_most = h.limits.rows.1

  pub row_low : (r : ℕ) → 0 < tag (program ws s) r → r < max_rows
  row_low r t = let a = row_within (columns_whole h) r t in let b = rows_most in omega arith

  pub function_low : (f : ℕ) → is_function (program ws s) f ≡ true → f < max_rows
  function_low f t = let a = function_within (columns_whole h) f t in let b = rows_most in omega arith

  pub body_told : (f n : ℕ) → is_function (program ws s) f ≡ true → n ≡ num (program ws s) (f + 1) → (f + 2 + n ≡ body (program ws s) f) × (f + 2 + n < max_rows)
  body_told f n t e = let (a, b) = body_row (rows_fit h) (columns_whole h) f t in let c = rows_most in (omega arith, omega arith)

  -- a head is one of the rows
  pub head_inside : (r : ℕ) → is_head_of (tag (program ws s) r) ≡ true → r < s.rows
  unfolding program columns
  head_inside r t = row_within (columns_whole h) r (head_range (tag (program ws s) r) t).0
