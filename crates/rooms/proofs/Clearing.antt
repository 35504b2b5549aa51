-- An array of zeros, as a function makes it (its length is a variable here: to count it out would take long).
use Prim.Native.Nat.{ℕ}
use native.Mathlib.Omega.{arith}
use native.Mathlib.Decide.{dec_lt}
use mathlib.Core.Path.{◌≡◌}
use lib.ListN.{length, get_or, replicate, length-replicate, get_or-replicate, get_or-eq_default}
use Rattle.rooms.specs.Cleared.{Cleared}

pub cleared : (n : ℕ) → Cleared n (replicate {A = ℕ} n 0)
cleared n =
    let size = length-replicate {A = ℕ} n 0 in
    record { room = size; zero = λ k. elim (dec_lt k n) [ yes h ↦ get_or-replicate n k 0 0 h | no h ↦ get_or-eq_default (replicate n 0) 0 (omega arith) ] }
