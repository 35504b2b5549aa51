-- Words of a column of the message.
use Prim.Native.Nat.{ℕ, ◌+◌, ◌≤◌, ◌<◌}
use native.Mathlib.Omega.{arith}
use mathlib.Core.Path.{◌≡◌, sym, ◌∙◌}
use mathlib.Core.List.{List}
use lib.ListN.{get_or, take, drop, length-take, get_or-eq_default}
use lib.Seq.{get_or-take, get_or-drop}

-- n words from `at`: the one with number i, and 0 past the end
pub part_at : (ws : List ℕ) (n at i : ℕ) → i < n → get_or ws (at + i) 0 ≡ get_or (take n (drop at ws)) i 0
part_at ws n at i h = sym (get_or-take n (drop at ws) i 0 h ∙ get_or-drop at ws i 0)

pub part_past : (ws : List ℕ) (n at i : ℕ) → n ≤ i → 0 ≡ get_or (take n (drop at ws)) i 0
part_past ws n at i h = sym (get_or-eq_default (take n (drop at ws)) 0 (omega (arith, length-take n (drop at ws))))
