-- The cells of the table lie in it.
use Prim.Native.Nat.{ℕ, ◌+◌, ◌*◌, ◌≤◌, ◌<◌}
use native.Mathlib.Nat.{mul-le-mul_right, suc-mul}
use native.Mathlib.Omega.{arith}
use mathlib.Core.List.{List}
use lib.ListN.{length}
use Rattle.bits.specs.Bits.{Row}

pub row_in : (t : List ℕ) (n w x : ℕ) → x < n → n * w ≤ length t → Row t w x
row_in t n w x h room = let m = mul-le-mul_right w h in record { room = omega (arith, suc-mul x w) }

-- the cell of a row, below all cells of n rows
pub cell_below : (n w x k : ℕ) → x < n → k < w → x * w + k < n * w
cell_below n w x k h l = let m = mul-le-mul_right w h in omega (arith, suc-mul x w)
