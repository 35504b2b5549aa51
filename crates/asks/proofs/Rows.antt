-- The names at a call, a send and a spawn.
use Prim.Native.Nat.{ℕ, ◌+◌, ◌≤◌, ◌<◌}
use native.Mathlib.Omega.{arith}
use native.Mathlib.Decide.{ℕ_discrete}
use mathlib.Core.Logic.{◌⊎◌, inl, inr}
use mathlib.Core.Path.{◌≡◌, refl, sym, ◌∙◌, ap}
use mathlib.Core.Bool.{Bool, true, false, not, ◌&&◌}
use mathlib.Core.List.{List}
use lib.Dec.{eqb, leb}
use borrow.Author.Tests.{eqb-true, le-leb, not-false}
use Rattle.model.specs.Limits.{max_rows}
use Rattle.model.specs.declared.Sizes.{Sizes}
use Rattle.model.specs.Words.{columns}
use Rattle.model.specs.Rows.{Program, program, tag, num, kind, call, send, spawn, is_head_of}
use Rattle.model.specs.Heads.{is_function, takes}
use Rattle.model.proofs.Logic.{and_left, and_right, and_intro}
use Rattle.model.proofs.Parse.Locations.{Location}
use Rattle.model.proofs.Parse.Lengths.{row_location, row_within, function_within}
use Rattle.lists.specs.Ready.{Ready}
use Rattle.lists.proofs.Facts.{rows_fit, columns_whole}
use Rattle.positions.proofs.Placed.{rows_most}
use Rattle.positions.proofs.Standing.{rest_call, call_name, send_names, spawn_name}
use Rattle.values.proofs.Names.{head_name}
use Rattle.values.proofs.Operands.{call_names, function_names}

-- what takes n arguments is a function that has n parameters
pub takes_count : (p : Program) (f n : ℕ) → takes p f n ≡ true → (is_function p f ≡ true) × (num p (f + 1) ≡ n)
unfolding takes
takes_count p f n h = (and_left (is_function p f) (eqb (num p (f + 1)) n) h, eqb-true (num p (f + 1)) n (and_right (is_function p f) (eqb (num p (f + 1)) n) h))

module _ {ws : List ℕ} {s : Sizes} (h : Ready ws s) where
  pub head_here : (r : ℕ) → 1 ≤ tag (program ws s) r → tag (program ws s) r ≤ 9 → Location (program ws s) r
  unfolding is_head_of
  head_here r lo hi = row_location (rows_fit h) (columns_whole h) r (and_intro (leb 1 (tag (program ws s) r)) (leb (tag (program ws s) r) 9) (le-leb 1 (tag (program ws s) r) lo) (le-leb (tag (program ws s) r) 9 hi))

  pub row_below : (r : ℕ) → 1 ≤ tag (program ws s) r → (r < s.rows) × (r < max_rows)
  unfolding program columns
  row_below r lo = let a = row_within (columns_whole h) r lo in let b = rows_most h in (omega arith, omega arith)

  -- the name that a call, a send and a spawn read first
  pub read_name : (r n : ℕ) → 4 ≤ tag (program ws s) r → tag (program ws s) r ≤ 6 → n ≡ num (program ws s) (r + 1) → n < s.names
  unfolding program kind
  read_name r n lo hi e =
      let l = head_here r (omega arith) (omega arith) in
      elim (three (tag (program ws s) r) lo hi) [
        | inl z ↦ let y = call_name l (rw z) in omega arith
        | inr z ↦ elim z [ inl y ↦ let x = (send_names l (rw y)).0 in omega arith | inr y ↦ let x = spawn_name l (rw y) in omega arith ]
      ]
    where
      three : (t : ℕ) → 4 ≤ t → t ≤ 6 → (t ≡ 4) ⊎ ((t ≡ 5) ⊎ (t ≡ 6))
      three t lo hi = elim (ℕ_discrete t 4) [ yes e ↦ inl e | no e ↦ inr (elim (ℕ_discrete t 5) [ yes f ↦ inl f | no f ↦ inr (omega arith) ]) ]

  -- those of a call's arguments and of a function's parameters
  pub argument_below : (r n i a : ℕ) → tag (program ws s) r ≡ 4 → n ≡ num (program ws s) (r + 2) → i < n → a ≡ num (program ws s) (r + 3 + i) → a < s.names
  unfolding program
  argument_below r n i a t e l g = let y = call_names (program ws s) (head_here r (omega arith) (omega arith)) t i (omega arith) in omega arith

  pub parameter_below : (r f n i b : ℕ) → takes (program ws s) f (num (program ws s) (r + 2)) ≡ true → n ≡ num (program ws s) (r + 2) → i < n → b ≡ num (program ws s) (f + 2 + i) → b < s.names
  unfolding program
  parameter_below r f n i b t e l g =
      let k = takes_count (program ws s) f (num (program ws s) (r + 2)) t in
      let y = function_names (program ws s) (rows_fit h) (columns_whole h) f k.0 i (omega arith) in
      omega arith

  pub count_below : (r n : ℕ) → tag (program ws s) r ≡ 4 → n ≡ num (program ws s) (r + 2) → n < max_rows
  unfolding kind
  count_below r n t e = let (a, b) = rest_call (head_here r (omega arith) (omega arith)) (rw t) in let c = rows_most h in omega arith

  pub function_below : (f n : ℕ) → takes (program ws s) f n ≡ true → f < max_rows
  function_below f n t = let a = function_within (columns_whole h) f (takes_count (program ws s) f n t).0 in let b = rows_most h in omega arith

  -- the name and the message of a send, the name of a spawn
  pub send_below : (r m n : ℕ) → tag (program ws s) r ≡ 5 → m ≡ num (program ws s) (r + 2) → n ≡ num (program ws s) r → (m < s.names) × (n < s.names)
  unfolding program kind
  send_below r m n t e g = let l = head_here r (omega arith) (omega arith) in let a = (send_names l (rw t)).1 in let b = head_name send l (rw t) refl in (omega arith, omega arith)

  pub spawn_below : (r n : ℕ) → tag (program ws s) r ≡ 6 → n ≡ num (program ws s) r → n < s.names
  unfolding program kind
  spawn_below r n t g = let l = head_here r (omega arith) (omega arith) in let b = head_name spawn l (rw t) refl in omega arith

  pub message_below : (r m : ℕ) → tag (program ws s) r ≡ 5 → m ≡ num (program ws s) (r + 2) → m < s.names
  unfolding program kind
  message_below r m t e = let a = (send_names (head_here r (omega arith) (omega arith)) (rw t)).1 in omega arith

pub takes_function : (p : Program) (f n : ℕ) (x : Bool) → x ≡ takes p f n → not x ≡ false → is_function p f ≡ true
takes_function p f n x e z = (takes_count p f n (sym e ∙ not-false x z)).0
