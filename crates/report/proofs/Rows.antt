-- The text of a system, row by row, by the code's values.
use Prim.Native.Nat.{ℕ, zero, suc, ◌+◌, ◌*◌, ◌≤◌, ◌<◌}
use native.Mathlib.Omega.{arith}
use native.Mathlib.Numerals.{add-one}
use mathlib.Core.Path.{◌≡◌, sym, ◌∙◌}
use mathlib.Core.List.{List, [], ◌∷◌, ◌++◌}
use lib.ListN.{length, get_or, drop, length-append}
use lib.Seq.{get_or-take, get_or-drop}
use Rattle.model.specs.Words.{left, right, columns}
use Rattle.model.specs.Listing.{listed_rows}
use Rattle.text.specs.Text.{put_at, pair, line_end, line}
use Rattle.text.proofs.Putting.{put_none, put_behind, behind, put_spaced, put_ended}
use Rattle.text.proofs.Digits.{pair_most, line_most}
use Rattle.report.specs.System.{sizes_text, row_text, rows_text, system_text}

-- the sizes take one line
pub sizes_most : (ws : List ℕ) → length (sizes_text ws) ≤ 84
unfolding sizes_text line_end
sizes_most ws =
    let a : List ℕ = pair (get_or ws 0 0) (get_or ws 1 0) in
    let b : List ℕ = pair (get_or ws 2 0) (get_or ws 3 0) in
    let x = length-append (a ++ (32 ∷ b)) line_end in
    let y = length-append a (32 ∷ b) in
    let u = pair_most (get_or ws 0 0) (get_or ws 1 0) in
    let w = pair_most (get_or ws 2 0) (get_or ws 3 0) in
    omega arith

-- a row's tag and number are words of the listing
module _ (ws : List ℕ) (rows r : ℕ) (count : rows ≡ get_or ws 3 0) (below : r < rows) where
  row_left : left (listed_rows ws) r ≡ get_or ws (4 + r) 0
  unfolding left listed_rows columns
  row_left = get_or-take (get_or ws 3 0) (drop 4 ws) r 0 (omega arith) ∙ get_or-drop 4 ws r 0

  row_right : right (listed_rows ws) r ≡ get_or ws (4 + rows + r) 0
  unfolding right listed_rows columns
  row_right = get_or-take (get_or ws 3 0) (drop (4 + get_or ws 3 0) ws) r 0 (omega arith) ∙ (get_or-drop (4 + get_or ws 3 0) ws r 0 ∙ rw count)

  pub row_words : (t n : ℕ) → t ≡ get_or ws (4 + r) 0 → n ≡ get_or ws (4 + rows + r) 0 → line t n ≡ row_text ws r
  unfolding row_text
  row_words t n e f = rw (row_left, row_right, e, f)

pub row_most : (ws : List ℕ) (r : ℕ) → length (row_text ws r) ≤ 42
unfolding row_text
row_most ws r = line_most (left (listed_rows ws) r) (right (listed_rows ws) r)

pub rows_most : (ws : List ℕ) (n : ℕ) → length (rows_text ws n) ≤ 42 * n
unfolding rows_text
rows_most ws zero = omega arith
rows_most ws (suc n) =
    let z = length-append (rows_text ws n) (row_text ws n) in
    let y = rows_most ws n in
    let x = row_most ws n in
    omega arith

-- a text is put at `at`, and `here` is behind it
abbrev pub Put : ℕ → List ℕ → ℕ → List ℕ → List ℕ → Type 0
Put at xs here out₀ out = (out ≡ put_at at xs out₀) × (here ≡ at + length xs)

-- one behind another
pub put_then : (at next end : ℕ) (xs ys out₀ out₁ out₂ : List ℕ) → Put at xs next out₀ out₁ → Put next ys end out₁ out₂ → Put at (xs ++ ys) end out₀ out₂
put_then at next end xs ys out₀ out₁ out₂ f g =
    (put_behind at next xs ys out₀ out₁ out₂ f.0 f.1 g.0, behind at next end xs ys f.1 g.1)

-- the first n rows
pub rows_none : (ws : List ℕ) (at : ℕ) (out : List ℕ) → Put at (rows_text ws 0) at out out
unfolding rows_text
rows_none ws at out = (sym (put_none at out), omega arith)

pub rows_more : (ws : List ℕ) (at n here end : ℕ) (out₀ out₁ out₂ : List ℕ) → Put at (rows_text ws n) here out₀ out₁ → Put here (row_text ws n) end out₁ out₂ → Put at (rows_text ws (n + 1)) end out₀ out₂
unfolding rows_text
rows_more ws at n here end out₀ out₁ out₂ f g = rw (add-one n) (put_then at here end (rows_text ws n) (row_text ws n) out₀ out₁ out₂ f g)

pub rows_all : (ws : List ℕ) (at n rows here : ℕ) (out₀ out : List ℕ) → Put at (rows_text ws n) here out₀ out → n ≡ rows → Put at (rows_text ws rows) here out₀ out
rows_all ws at n rows here out₀ out p e = rw (← e) p

-- the sizes
pub sizes_put : (ws : List ℕ) (at half space next end : ℕ) (out₀ out₁ out₂ out₃ out₄ : List ℕ) → Put at (pair (get_or ws 0 0) (get_or ws 1 0)) half out₀ out₁ → (out₂ ≡ put_at half (32 ∷ []) out₁) × (space ≡ half + 1) → Put space (pair (get_or ws 2 0) (get_or ws 3 0)) next out₂ out₃ → (out₄ ≡ put_at next line_end out₃) × (end ≡ next + 1) → Put at (sizes_text ws) end out₀ out₄
unfolding sizes_text
sizes_put ws at half space next end out₀ out₁ out₂ out₃ out₄ f g h i =
    put_ended at next end _ out₀ out₃ out₄ (put_spaced at half space next _ _ out₀ out₁ out₂ out₃ f g h) i

-- the system
pub system_put : (ws : List ℕ) (at rows next end : ℕ) (out₀ out₁ out₂ : List ℕ) → rows ≡ get_or ws 3 0 → Put at (sizes_text ws) next out₀ out₁ → Put next (rows_text ws rows) end out₁ out₂ → Put at (system_text ws) end out₀ out₂
unfolding system_text listed_rows columns
system_put ws at rows next end out₀ out₁ out₂ e f g =
    put_then at next end (sizes_text ws) (rows_text ws (get_or ws 3 0)) out₀ out₁ out₂ f (rw e at g)

pub system_most : (ws : List ℕ) → length (system_text ws) ≤ 84 + 42 * get_or ws 3 0
unfolding system_text listed_rows columns
system_most ws =
    let z = length-append (sizes_text ws) (rows_text ws (get_or ws 3 0)) in
    let y = rows_most ws (get_or ws 3 0) in
    let x = sizes_most ws in
    omega arith

-- a row, by the code's values
module _ (ws : List ℕ) (rows r : ℕ) (count : rows ≡ get_or ws 3 0) (below : r < rows) where
  pub row_put : (at end t n : ℕ) (out₀ out : List ℕ) → t ≡ get_or ws (4 + r) 0 → n ≡ get_or ws (4 + rows + r) 0 → Put at (line t n) end out₀ out → Put at (row_text ws r) end out₀ out
  row_put at end t n out₀ out e f p = rw (row_words ws rows r count below t n e f) at p
