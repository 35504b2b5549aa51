-- The rows of a program: none past the end has a tag, so a row with a tag is one of them.
use Prim.Native.Nat.{ℕ, ◌≤◌, ◌<◌}
use native.Mathlib.Decide.{dec_lt}
use native.Mathlib.Omega.{arith}
use mathlib.Core.Path.{◌≡◌}
use mathlib.Core.List.{List}
use lib.ListN.{length, drop, length-take, get_or-eq_default}
use Rattle.model.specs.declared.Sizes.{Sizes}
use Rattle.model.specs.Words.{left, columns}
use Rattle.model.specs.Rows.{Program, program, size, tag}

module _ (p : Program) (upto : length p.rows.lefts ≤ size p) where
  pub row_end : (r : ℕ) → size p ≤ r → tag p r ≡ 0
  unfolding tag left
  row_end r h = get_or-eq_default p.rows.lefts 0 {n = r} (omega arith)

  pub row_inside : (r : ℕ) → 1 ≤ tag p r → r < size p
  row_inside r h = elim (dec_lt r (size p)) [ yes b ↦ b | no b ↦ let z = row_end r (omega arith) in absurd (omega arith) ]

-- of a message
module _ (ws : List ℕ) (s : Sizes) where
  program_upto : length (program ws s).rows.lefts ≤ size (program ws s)
  unfolding program columns
  program_upto = let l = length-take s.rows (drop 4 ws) in omega arith

  pub program_end : (r : ℕ) → size (program ws s) ≤ r → tag (program ws s) r ≡ 0
  program_end = row_end (program ws s) program_upto

  pub tag_inside : (r : ℕ) → 1 ≤ tag (program ws s) r → r < size (program ws s)
  tag_inside = row_inside (program ws s) program_upto
