-- Sums of counts: what a table of them says of the counters from one to another, and what an item then counts.
use Prim.Native.Nat.{ℕ, zero, suc, ◌+◌, ◌-◌, ◌≤◌, ◌<◌}
use native.Mathlib.Omega.{arith}
use mathlib.Core.Path.{◌≡◌, sym}
use mathlib.Core.Bool.{true, false}
use mathlib.Core.List.{List}
use lib.ListN.{length, get_or, set}
use Rattle.model.specs.Index.{total_between, total}
use Rattle.model.specs.Rows.{Program}
use Rattle.model.specs.Tables.{Tables}
use Rattle.model.specs.Bads.{Subject}
use Rattle.model.specs.Counters.{counter_count, counts}
use Rattle.model.specs.Markings.{Marking, sum_in}
use Rattle.model.proofs.Index.{total_end, total_turn, total_same, total_none}
use Rattle.bads_rows.specs.Items.{Range}
use Rattle.ceilings_met.specs.Sums.{SumsOf, counts_of}
use Rattle.ceilings_met.proofs.Filled.{Filled, filled_more}

totalIn_split : (n m i : ℕ) (f : ℕ → ℕ) → total_between (n + m) i f ≡ total_between n i f + total_between m (i + n) f
unfolding total_between
totalIn_split zero m i f = let a : zero + m ≡ m = omega arith in let b : i + zero ≡ i = omega arith in rw (a, b) (omega arith)
totalIn_split (suc n) m i f =
    let a : suc n + m ≡ suc (n + m) = omega arith in
    let b : i + suc n ≡ i + 1 + n = omega arith in
    let r = totalIn_split n m (i + 1) f in
    rw (a, b) (omega arith)

-- up to k, and from k on
pub total_split : (i k e : ℕ) (f : ℕ → ℕ) → i ≤ k → k ≤ e → total i e f ≡ total i k f + total k e f
unfolding total
total_split i k e f a b =
    let x : e - i ≡ (k - i) + (e - k) = omega arith in
    let y : i + (k - i) ≡ k = omega arith in
    rw x (rw y at (totalIn_split (k - i) (e - k) i f))

-- one index more
total_last : (e : ℕ) (f : ℕ → ℕ) → total 0 (e + 1) f ≡ total 0 e f + f e
total_last e f =
    let s = total_split 0 e (e + 1) f (omega arith) (omega arith) in
    let t = total_turn e (e + 1) f (omega arith) in
    let z = total_end (e + 1) (e + 1) f (omega arith) in
    omega arith

-- What an item counts: the sum from its first counter up to its last
module _ (p : Program) (t : Tables) (k : Subject) (from to : ℕ) (range : Range p t k from to) (m : Marking) where
  abbrev part : ℕ → ℕ
  part x = elim (counts p t k x) [ true ↦ m x | false ↦ 0 ]

  pub range_sum : sum_in p t m k ≡ total from to m
  unfolding sum_in
  range_sum =
      let order = range.order in
      let upto = range.upto in
      let a = total_split 0 from (counter_count p t) part (omega arith) (omega arith) in
      let b = total_split from to (counter_count p t) part (omega arith) (omega arith) in
      let x = total_none 0 from part (λ i lo hi. rw (range.before i hi, part)) in
      let y = total_same from to part m (λ i lo hi. rw (range.within i lo hi, part)) in
      let z = total_none to (counter_count p t) part (λ i lo hi. rw (range.behind i lo hi, part)) in
      omega arith

-- A table of sums, none of which falls
module _ (sums : List ℕ) (n : ℕ) (rising : (x : ℕ) → x < n → get_or sums x 0 ≤ get_or sums (x + 1) 0) where
  climb : (m i : ℕ) → i + m ≤ n → get_or sums i 0 + total_between m i (counts_of sums) ≡ get_or sums (i + m) 0
  unfolding total_between counts_of
  climb zero i h = let a : i + zero ≡ i = omega arith in rw a (omega arith)
  climb (suc m) i h =
      let a : i + suc m ≡ i + 1 + m = omega arith in
      let b = climb m (i + 1) (omega arith) in
      let r = rising i (omega arith) in
      rw a (omega arith)

  pub between : (from to : ℕ) → from ≤ to → to ≤ n → get_or sums from 0 + total from to (counts_of sums) ≡ get_or sums to 0
  unfolding total
  between from to a b = let e : from + (to - from) ≡ to = omega arith in rw e at (climb (to - from) from (omega arith))

-- The sums of counts
module _ (m : Marking) (n : ℕ) (sums : List ℕ) (told : SumsOf m n sums) where
  pub sums_rise : (x : ℕ) → x < n → get_or sums x 0 ≤ get_or sums (x + 1) 0
  sums_rise x h = let a = told x (omega arith) in let b = told (x + 1) (omega arith) in let c = total_last x m in omega arith

  pub sums_counts : (x : ℕ) → x < n → counts_of sums x ≡ m x
  unfolding counts_of
  sums_counts x h = let a = told x (omega arith) in let b = told (x + 1) (omega arith) in let c = total_last x m in omega arith

-- The table of sums filled counter by counter
module _ (m : Marking) where
  -- the sum over the counters before x
  abbrev pub sum_before : ℕ → ℕ
  sum_before x = total 0 x m

  pub sum_none : 0 ≡ sum_before 0
  sum_none = sym (total_end 0 0 m (omega arith))

  pub sum_more : (x sum next : ℕ) → sum ≡ sum_before x → next ≡ sum + m x → next ≡ sum_before (x + 1)
  sum_more x sum next e h = let l = total_last x m in omega arith

  pub all_filled : (x n sum : ℕ) (sums : List ℕ) → Filled sum_before x sums → x ≡ n → n < length sums → sum ≡ sum_before x → SumsOf m n (set sums n sum)
  all_filled x n sum sums f e room h y l = let g = filled_more sum_before x sum sums f (omega arith) h y (omega arith) in rw e at g
