-- Where the mail entries of each class begin.
use Prim.Native.Nat.{ℕ, ◌+◌, ◌≤◌}
use native.Mathlib.Omega.{arith}
use mathlib.Core.Path.{◌≡◌}
use mathlib.Core.List.{[]}
use Rattle.model.specs.Words.{Columns}
use Rattle.lists.specs.Lists.{Ascending, range_from}
use Rattle.lists.proofs.Rising.{begins_order}

pub start_next : (c : Columns) → Ascending c [] → (a j : ℕ) → j ≡ range_from c a → j ≤ range_from c (a + 1)
unfolding range_from
start_next c rising a j e = omega (arith, begins_order c [] a rising)
