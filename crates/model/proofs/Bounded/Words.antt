-- Words are below 65,536: so is every limit of a ceiling and every minimum of a bad.
use Prim.Native.Nat.{ℕ, zero, suc, ◌+◌, ◌≤◌}
use native.Mathlib.Decide.{dec_lt}
use native.Mathlib.Omega.{arith}
use mathlib.Core.List.{List, [], ◌∷◌}
use lib.ListN.{get_or, take, drop, length-take, get_or-eq_default}
use lib.Seq.{get_or-take, get_or-drop}
use lib.Dec.{eqb}
use Rattle.model.specs.declared.Sizes.{Sizes}
use Rattle.model.specs.Limits.{omega_limit}
use Rattle.model.specs.Words.{words, Columns, left, right, columns}
use Rattle.model.specs.Bads.{bad_rows}
use Rattle.model.specs.Ceilings.{ceiling_entries, limit_from, ceilings_of}
use Rattle.model.specs.Demands.{Bytes}
use Rattle.model.proofs.Logic.{test}

-- every word is one of 16 bits
abbrev pub Short : List ℕ → Type 0
Short ws = (i : ℕ) → get_or ws i 0 ≤ omega_limit

pub short_words : (bytes : List ℕ) → Bytes bytes → Short (words bytes)
unfolding words
short_words [] b i = omega arith
short_words (low ∷ []) b i = omega arith
short_words (low ∷ high ∷ bytes) b zero = let l = b 0 in let h = b 1 in omega arith
short_words (low ∷ high ∷ bytes) b (suc i) = short_words bytes (λ j. b (suc (suc j))) i

-- and so is every element of a column
short_taken : (n : ℕ) (ws : List ℕ) → Short ws → Short (take n ws)
short_taken n ws s i = elim (dec_lt i n) [
  | yes h ↦ rw (get_or-take n ws i 0 h) (s i)
  | no h ↦ let l = length-take n ws in rw (get_or-eq_default (take n ws) 0 {n = i} (omega arith)) (omega arith)
]

pub short_right : (ws : List ℕ) (n at at' i : ℕ) → Short ws → right (columns ws n at at') i ≤ omega_limit
unfolding right columns
short_right ws n at at' i s = short_taken n (drop at' ws) (λ j. rw (get_or-drop at' ws j 0) (s (at' + j))) i

-- every minimum of a bad
pub short_minimum : (ws : List ℕ) (s : Sizes) (r : ℕ) → Short ws → right (bad_rows ws s) r ≤ omega_limit
unfolding bad_rows
short_minimum ws s r h = short_right ws _ _ _ r h

-- every limit of a ceiling
limit_from_short : (counters : ℕ) (entries : Columns) (n e x : ℕ) → ((i : ℕ) → right entries i ≤ omega_limit) → limit_from counters entries n e x ≤ omega_limit
unfolding limit_from
limit_from_short counters entries zero e x h = omega arith
limit_from_short counters entries (suc n) e x h =
    test (eqb (left entries e) counters) (λ t. rw (t, limit_from) (omega arith))
    (λ f. test (eqb (left entries e) x) (λ t. rw (f, t, limit_from) (h e))
    (λ g. rw (f, g, limit_from) (limit_from_short counters entries n (e + 1) x h)))

pub short_limit : (ws : List ℕ) (s : Sizes) (counters k x : ℕ) → Short ws → (ceilings_of ws s counters).limit k x ≤ omega_limit
unfolding ceilings_of ceiling_entries
short_limit ws s counters k x h = limit_from_short counters (ceiling_entries ws s) _ _ x (λ i. short_right ws _ _ _ i h)
