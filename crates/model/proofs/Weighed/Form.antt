-- Weights in form are at most 1,000, so that the numbers that are tested stay small: a rule's change is a sum of two weights less a sum of two, the
-- start weighs one weight, and a bad at most 1,000 times the sum of its minimums.
use Prim.Native.Nat.{ℕ, zero, suc, ◌+◌, ◌-◌, ◌*◌, ◌≤◌, ◌<◌}
use native.Mathlib.Decide.{dec_lt}
use native.Mathlib.Omega.{arith}
use native.Mathlib.Nat.{mul-le-mul_right, mul-zero, mul-one}
use mathlib.Core.Path.{◌≡◌, refl, ◌∙◌}
use mathlib.Core.Bool.{Bool, true, false, not}
use mathlib.Core.List.{List, [], ◌∷◌}
use mathlib.Core.Option.{some, none, none-ne-some}
use lib.Dec.{leb, eqb}
use borrow.Author.Tests.{leb-true, eq-eqb, ne_eqb}
use Rattle.model.specs.declared.Sizes.{Sizes}
use Rattle.model.specs.Limits.{max_weight}
use Rattle.model.specs.Index.{total}
use Rattle.model.specs.Words.{Columns, left, right, columns}
use Rattle.model.specs.Reader.{first_wrong_of}
use Rattle.model.specs.Rows.{Program}
use Rattle.model.specs.Tables.{Tables, state_index_of}
use Rattle.model.specs.Closed.{start_state}
use Rattle.model.specs.Bads.{Subject, Item}
use Rattle.model.specs.Counters.{counter_count}
use Rattle.model.specs.Rules.{Effect, quiet, reads, puts, starts, Rule}
use Rattle.model.specs.Markings.{Marking, initial, sum_in}
use Rattle.model.specs.Ceilings.{Ahead, limit_from}
use Rattle.model.specs.Weights.{weight_entries, bound_step, weight_step, lines_ahead, line_entry, Line, lines_of, weighed, effect_put, effect_took, weight_put_of, weight_taken_of, lightest, fill, is_single_of, fill_those, least_counts, least_weight_of, start_weight}
use Rattle.model.proofs.Logic.{test}
use Rattle.model.proofs.Index.{total_le, total_times, total_none, total_plus, total_one}
use Rattle.model.proofs.Exact.Reading.{ahead_taken, first_wrong_iff}
use Rattle.model.proofs.Weighed.Least.{pick, only_at, total_at}

module _ (counters most : ℕ) (entries : Columns) where
  -- an entry that fits
  step_small : (ahead : Ahead) (x number : ℕ) (more : List Ahead) → bound_step counters most ahead x number ≡ some more → number ≤ most
  unfolding bound_step
  step_small ahead x number more h =
      test (leb number most) (λ e. leb-true number most e) (λ e. absurd (none-ne-some more (rw (e, bound_step) at h)))

  -- where no entry is wrong, each number is small enough
  pub entry_small : (items : List Ahead) → first_wrong_of (bound_step counters most) entries items ≡ none → (e : ℕ) → e < entries.size → right entries e ≤ most
  entry_small items form e b =
      let t = ahead_taken (bound_step counters most) entries items entries.size [] e ((first_wrong_iff (bound_step counters most) entries items).0 form) b in
      step_small t.item (left entries e) (right entries e) t.more t.said

module _ (counters : ℕ) (entries : Columns) (lines : ℕ) (form : first_wrong_of (weight_step counters) entries (lines_ahead lines) ≡ none) where
  from_small : (n e x : ℕ) → n ≡ entries.size - e → limit_from counters entries n e x ≤ max_weight
  unfolding limit_from
  from_small zero e x z = omega arith
  from_small (suc n) e x z =
      test (eqb (left entries e) counters) (λ h. rw (h, limit_from) (omega arith))
      (λ h. test (eqb (left entries e) x) (λ q. rw (h, q, limit_from) (entry_small counters max_weight entries (lines_ahead lines) form e (omega arith)))
      (λ q. rw (h, q, limit_from) (from_small n (e + 1) x (omega arith))))

-- "weights 1 to 1,000"
pub weight_small : (ws : List ℕ) (s : Sizes) (counters : ℕ) → first_wrong_of (weight_step counters) (weight_entries ws s) (lines_ahead s.lines) ≡ none → (k x : ℕ) → (lines_of ws s counters).weight k x ≤ max_weight
unfolding lines_of
weight_small ws s counters form k x = from_small counters (weight_entries ws s) s.lines form _ _ x refl

module _ (w : Line) (small : (x : ℕ) → w x ≤ max_weight) where
  -- what a rule puts and takes
  effect_put_small : (e : Effect) → effect_put w e ≤ max_weight
  unfolding effect_put
  effect_put_small quiet = omega arith
  effect_put_small (reads x) = omega arith
  effect_put_small (puts x) = small x
  effect_put_small (starts x) = small x

  effect_took_small : (e : Effect) → effect_took w e ≤ max_weight
  unfolding effect_took
  effect_took_small quiet = omega arith
  effect_took_small (reads x) = small x
  effect_took_small (puts x) = omega arith
  effect_took_small (starts x) = omega arith

  pub put_small : (ρ : Rule) → weight_put_of w ρ ≤ 2 * max_weight
  unfolding weight_put_of
  put_small ρ = omega (arith, small ρ.to, effect_put_small ρ.effect)

  pub taken_small : (ρ : Rule) → weight_taken_of w ρ ≤ 2 * max_weight
  unfolding weight_taken_of
  taken_small ρ = omega (arith, small ρ.from, effect_took_small ρ.effect)

  -- what counts weigh
  weighed_small : (n : ℕ) (m : Marking) → weighed n w m ≤ max_weight * total 0 n m
  unfolding weighed
  weighed_small n m =
      omega (arith, total_le 0 n (λ x. w x * m x) (λ x. max_weight * m x) (λ x. mul-le-mul_right (m x) (small x)), total_times 0 n max_weight m)

-- the sum of the minimums of some items
unfoldable pub minimums : List Item → ℕ
minimums [] = 0
minimums (i ∷ is) = i.minimum + minimums is

unfoldable minimums_of : (Subject → Bool) → List Item → ℕ
minimums_of which [] = 0
minimums_of which (i ∷ is) = pick (which i.subject) i.minimum 0 + minimums_of which is

both_passes : (is : List Item) → minimums_of is_single_of is + minimums_of (λ k. not (is_single_of k)) is ≡ minimums is
unfolding minimums minimums_of
both_passes [] = refl
both_passes (i ∷ is) = omega (arith, both_passes is, either (is_single_of i.subject) i.minimum)
  where
    either : (b : Bool) (n : ℕ) → pick b n 0 + pick (not b) n 0 ≡ n
    either true n = omega arith
    either false n = omega arith

at_most : (n y v : ℕ) → total 0 n (only_at y v) ≤ v
at_most n y v = elim (dec_lt y n) [
  | yes b ↦ omega (arith, total_at n y v b)
  | no b ↦ omega (arith, total_none 0 n (only_at y v) (λ x lo hi. let e = ne_eqb x y (λ z. omega arith) in rw e refl))
]

module _ (p : Program) (t : Tables) (w : Line) where
  abbrev n : ℕ
  n = counter_count p t

  abbrev all_of : Marking → ℕ
  all_of m = total 0 n m

  -- filling adds at most the minimum
  fill_total : (i : Item) (m : Marking) → all_of (fill p t w i m) ≤ all_of m + i.minimum
  unfolding fill
  fill_total i m =
      let y : ℕ = lightest p t w i.subject in
      let v : ℕ = i.minimum - sum_in p t m i.subject in
      let a = total_le 0 n (fill p t w i m) (λ x. m x + only_at y v x) (λ x. each (eqb x y) (m x) v) in
      let b = total_plus 0 n m (only_at y v) in
      omega (arith, a, b, at_most n y v)
    where
      each : (b : Bool) (u v : ℕ) → pick b (u + v) u ≤ u + pick b v 0
      each true u v = omega arith
      each false u v = omega arith

  those_total : (which : Subject → Bool) (is : List Item) (m : Marking) → all_of (fill_those p t w which is m) ≤ all_of m + minimums_of which is
  unfolding fill_those minimums_of
  those_total which [] m = omega arith
  those_total which (i ∷ is) m = by (which i.subject) (λ m'. those_total which is m')
    where
      by : (b : Bool) → ((m' : Marking) → all_of (fill_those p t w which is m') ≤ all_of m' + minimums_of which is) → all_of (fill_those p t w which is (elim b [ true ↦ fill p t w i m | false ↦ m ])) ≤ all_of m + (pick b i.minimum 0 + minimums_of which is)
      by true those = omega (arith, those (fill p t w i m), fill_total i m)
      by false those = omega (arith, those m)

  -- what a bad weighs: at most 1,000 times its minimums together
  pub least_small : ((x : ℕ) → w x ≤ max_weight) → (is : List Item) → least_weight_of p t w is ≤ max_weight * minimums is
  unfolding least_weight_of least_counts
  least_small small is =
      let singles : Marking = fill_those p t w is_single_of is (λ x. 0) in
      let a = those_total is_single_of is (λ x. 0) in
      let b = those_total (λ k. not (is_single_of k)) is singles in
      let z = total_none 0 n (λ x. 0) (λ x lo hi. refl) in
      omega (arith, weighed_small w small n (fill_those p t w (λ k. not (is_single_of k)) is singles), a, b, z, both_passes is)

  -- and the start at most 1,000
  pub start_small : ((x : ℕ) → w x ≤ max_weight) → start_weight p t w ≤ max_weight
  unfolding start_weight initial
  start_small small =
      let y : ℕ = state_index_of t (start_state p) in
      omega (arith, weighed_small w small n (initial p t), at_most n y 1)

  -- the start weighs its state's weight
  pub start_weighs : state_index_of t (start_state p) < n → start_weight p t w ≡ w (state_index_of t (start_state p))
  unfolding start_weight weighed initial
  start_weighs below =
      let y : ℕ = state_index_of t (start_state p) in
      total_one 0 n y (λ x. w x * only_at y 1 x) (omega arith) below (λ x d. let e = ne_eqb x y d in rw e (mul-zero (w x))) ∙ (let e = eq-eqb y y refl in rw e (mul-one (w y)))
