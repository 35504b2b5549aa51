-- A table filled word by word.
use Prim.Native.Nat.{ℕ, ◌+◌, ◌<◌}
use native.Mathlib.Decide.{ℕ_discrete}
use native.Mathlib.Omega.{arith}
use mathlib.Core.Path.{◌≡◌, ◌∙◌}
use mathlib.Core.List.{List}
use lib.ListN.{length, get_or, set}
use lib.Seq.{get_or-set_same, get_or-set_other}

-- the words before r are filled in
abbrev pub Filled : (ℕ → ℕ) → ℕ → List ℕ → Type 0
Filled f r table = (k : ℕ) → k < r → get_or table k 0 ≡ f k

pub filled_none : (f : ℕ → ℕ) (table : List ℕ) → Filled f 0 table
filled_none f table k h = absurd (omega arith)

pub filled_more : (f : ℕ → ℕ) (r x : ℕ) (table : List ℕ) → Filled f r table → r < length table → x ≡ f r → Filled f (r + 1) (set table r x)
filled_more f r x table g room e k h = elim (ℕ_discrete k r) [
  | yes z ↦ rw z (get_or-set_same table r x 0 room ∙ e)
  | no z ↦ get_or-set_other table r k x 0 z ∙ g k (omega arith)
]
