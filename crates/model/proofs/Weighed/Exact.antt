-- Refusals 17 and 18 are exact: they refuse nothing exactly where no usable rule raises a line's sum from any counts, and each bad has one line whose
-- sum is above the start's for all counts that meet it; and what each of them tells.
use Prim.Native.Nat.{ℕ, ◌+◌, ◌≤◌, ◌<◌}
use native.Mathlib.Decide.{dec_lt}
use native.Mathlib.Omega.{arith}
use mathlib.Core.Path.{◌≡◌, refl, subst}
use mathlib.Core.Bool.{Bool, true, false, not, ◌||◌}
use mathlib.Core.Logic.Iff
use mathlib.Core.Logic.{◌↔◌, ◌⊎◌, inl, inr, ⊎_elim}
use mathlib.Core.List.{List, Memᴰ}
use mathlib.Core.Option.{some, none}
use lib.ListN.{replicate}
use lib.Dec.{ltb}
use lib.IntN.{pos, ◌+ℤ◌}
use borrow.Author.Tests.{ltb-true, ltb-false, lt-ltb, not-true, not-false}
use Rattle.model.specs.declared.Sizes.{Sizes}
use Rattle.model.specs.declared.Verdict.{Verdict}
use Rattle.model.specs.declared.Verdict.TheVariants.{Rise, Light}
use Rattle.model.specs.Index.{any}
use Rattle.model.specs.Message.{bads_offset, weights_offset}
use Rattle.model.specs.Reader.{first_wrong_of}
use Rattle.model.specs.Rows.{Program}
use Rattle.model.specs.Tables.{Tables}
use Rattle.model.specs.Bads.{Item, bad, bad_step, bad_row_of, items, met}
use Rattle.model.specs.Counters.{counter_count}
use Rattle.model.specs.Rules.{Rule, rules}
use Rattle.model.specs.Markings.{Marking, usable, fire, initial, sum_in}
use Rattle.model.specs.Weights.{Line, Lines, weight_entries, line_entry, lines_of, weighed, change, raised, rise_check_of, least_weight_of, start_weight, without_counter, is_settled_of, light_check_of}
use Rattle.model.specs.Verify.{Message, message}
use Rattle.model.specs.Weighing.{ChangeExactly, IsLeast}
use Rattle.model.specs.Demands.{ByWeights, line_sum, Settled, Weighed}
use Rattle.model.specs.Demands.{Met as Meets}
use Rattle.model.specs.Refusals.{FirstSuch, Raises, Unsettled}
use Rattle.model.proofs.Logic.{test, true_false, or_cases, or_left, or_right, or_false_left, or_false_right}
use Rattle.model.proofs.Index.{any_elim, any_intro, any_none}
use Rattle.model.proofs.Exact.Tests.{fails_iff, not_iff, passes_iff}
use Rattle.model.proofs.Exact.Checks.{then_iff, first_none, first_some}
use Rattle.model.proofs.Exact.Met.{met_exactly, items_low}
use Rattle.model.proofs.Exact.Sound.{tests_of_weights}
use Rattle.model.proofs.Bounded.Fire.{Shaped}
use Rattle.model.proofs.Bounded.Shaped.{rules_shaped}
use Rattle.model.proofs.Weighed.Rules.{Low, rules_low}
use Rattle.model.proofs.Weighed.Change.{past_weighs, changed, raised_iff}
use Rattle.model.proofs.Weighed.Lightest.{is_least}

module _ (bytes : List ℕ) where
  abbrev m : Message
  m = message bytes

  abbrev s : Sizes
  s = m.sizes

  abbrev p : Program
  p = m.program

  abbrev t : Tables
  t = m.tables

  abbrev ls : Lines
  ls = m.lines

  abbrev ρs : List Rule
  ρs = rules p t

  -- a message's lines have a weight for each counter, and none past them
  counters : ls.counters ≡ counter_count p t
  unfolding message lines_of
  counters = refl

  lines : ls.size ≡ s.lines
  unfolding message lines_of
  lines = refl

  past : (k : ℕ) → ls.weight k ls.counters ≡ 0
  unfolding message lines_of
  past k = past_weighs (counter_count p t) (weight_entries m.words s) _ _

  shaped : (ρ : Rule) → Memᴰ ρ ρs → Shaped ls.counters ρ
  shaped = rw counters (rules_shaped p t)

  low : (ρ : Rule) → Memᴰ ρ ρs → Low ls.counters ρ
  low = rw counters (rules_low p t)

  -- what a rule does to a line's sum
  pub change_is : (k : ℕ) (ρ : Rule) → Memᴰ ρ ρs → (counts : Marking) → usable ρ counts ≡ true → pos (line_sum m k (fire ρ counts)) ≡ pos (line_sum m k counts) +ℤ change (ls.weight k) ρ
  change_is k ρ l counts u = changed ls.counters (ls.weight k) (past k) ρ counts (shaped ρ l) (low ρ l) u

  -- refusal 17
  raises_iff : (k : ℕ) → (raised (ls.weight k) ρs ≡ true) ↔ Raises m k
  raises_iff k =
      Iff.trans (raised_iff ls.counters (ls.weight k) (past k) ρs shaped low) (
        λ u. record { counts = u.counts; rule = u.rule; listed = u.listed; used = u.used; higher = u.higher },
        λ u. record { counts = u.counts; rule = u.rule; listed = u.listed; used = u.used; higher = u.higher },
      )

  pub rise_none : (rise_check_of m.words s ls ρs ≡ none) ↔ ((k : ℕ) → k < ls.size → Raises m k → ⊥)
  unfolding rise_check_of
  rise_none = first_none ls.size (λ k. raised (ls.weight k) ρs) _ (λ k below. fails_iff (raised (ls.weight k) ρs) (raises_iff k))

  pub rise_refuses : (v : Verdict) → (rise_check_of m.words s ls ρs ≡ some v) ↔ ((k : ℕ) × FirstSuch ls.size (Raises m) k × (Rise (weights_offset s + 2 + line_entry ls.counters (weight_entries m.words s) k) ≡ v))
  unfolding rise_check_of
  rise_refuses v = first_some ls.size (λ k. raised (ls.weight k) ρs) (λ k below. raises_iff k) (λ k. Rise (weights_offset s + 2 + line_entry ls.counters (weight_entries m.words s) k)) v

  -- no line is raised: no usable rule makes its sum higher
  abbrev NeverRise : Type 0
  NeverRise = (k : ℕ) → k < ls.size → (counts : Marking) (ρ : Rule) → Memᴰ ρ ρs → usable ρ counts ≡ true → line_sum m k (fire ρ counts) ≤ line_sum m k counts

  never_iff : ((k : ℕ) → k < ls.size → Raises m k → ⊥) ↔ NeverRise
  never_iff = (
    λ h k b counts ρ l u. elim (dec_lt (line_sum m k counts) (line_sum m k (fire ρ counts))) [
      | yes up ↦ absurd (h k b (record { counts = counts; rule = ρ; listed = l; used = u; higher = up }))
      | no up ↦ omega arith
    ],
    λ h k b r. omega (arith, r.higher, h k b r.counts r.rule r.listed r.used),
  )

  -- Refusal 18, in bads that are in form
  module _ (form : first_wrong_of (bad_step p) m.bads (replicate s.bads bad) ≡ none) (weights : ByWeights m) where
    abbrev is : ℕ → List Item
    is j = items p m.bads j

    meets_iff : (j : ℕ) → j < s.bads → (counts : Marking) → (met (sum_in p t counts) (is j) ≡ true) ↔ Meets m counts j
    meets_iff j b counts = met_exactly p m.bads s.bads form (sum_in p t counts) j b

    least_of : (k j : ℕ) → IsLeast p t (ls.weight k) (is j)
    least_of k j = is_least p t (ls.weight k) (is j)

    sum_is : (k : ℕ) (counts : Marking) → weighed (counter_count p t) (ls.weight k) counts ≡ line_sum m k counts
    sum_is k counts = rw counters refl

    start_is : (k : ℕ) → start_weight p t (ls.weight k) ≡ line_sum m k (initial p t)
    unfolding start_weight
    start_is k = sum_is k (initial p t)

    -- a line weighs the bad above the start
    abbrev heavy : ℕ → ℕ → Bool
    heavy j k = ltb (start_weight p t (ls.weight k)) (least_weight_of p t (ls.weight k) (is j))

    settles : (j : ℕ) → j < s.bads → is_settled_of p t ls (is j) ≡ true → Settled m j
    unfolding is_settled_of
    settles j b h =
        ⊎_elim
        (λ e. (0, omega (arith, lines), λ counts x. absurd ((least_of 0 j).without e (items_low p m.bads s.bads form j b) counts ((meets_iff j b counts).1 x))))
        (λ e. let (k, w, q) = any_elim 0 ls.size (heavy j) e in
        (k, w.1, λ counts x. omega (arith, ltb-true (start_weight p t (ls.weight k)) (least_weight_of p t (ls.weight k) (is j)) q, start_is k, sum_is k counts, (least_of k j).least counts ((meets_iff j b counts).1 x))))
        (or_cases (without_counter p t (is j)) (any 0 ls.size (heavy j)) h)

    unsettles : (j : ℕ) → j < s.bads → is_settled_of p t ls (is j) ≡ false → Unsettled m j
    unfolding is_settled_of
    unsettles j b h k below =
        let e = or_false_left (without_counter p t (is j)) (any 0 ls.size (heavy j)) h in
        let f = or_false_right (without_counter p t (is j)) (any 0 ls.size (heavy j)) h in
        let (counts, x, q) = (least_of k j).reached e in
        let l = ltb-false (start_weight p t (ls.weight k)) (least_weight_of p t (ls.weight k) (is j)) (any_none 0 ls.size k (heavy j) f (omega arith) below) in
        (counts, (meets_iff j b counts).0 x, omega (arith, l, q, start_is k, sum_is k counts))

    never_both : (j : ℕ) → Settled m j → Unsettled m j → ⊥
    never_both j (k, below, above) u = let (counts, x, l) = u k below in omega (arith, l, above counts x)

    settled_iff : (j : ℕ) → j < s.bads → (is_settled_of p t ls (is j) ≡ true) ↔ Settled m j
    settled_iff j b = (settles j b, λ x. test (is_settled_of p t ls (is j)) (λ e. e) (λ e. absurd (never_both j x (unsettles j b e))))

    unsettled_iff : (j : ℕ) → j < s.bads → (not (is_settled_of p t ls (is j)) ≡ true) ↔ Unsettled m j
    unsettled_iff j b = (
      λ h. unsettles j b (not-true (is_settled_of p t ls (is j)) h),
      λ u. test (is_settled_of p t ls (is j)) (λ e. absurd (never_both j (settles j b e) u)) (λ e. rw e refl),
    )

    pub light_none : (light_check_of s p t ls m.bads ≡ none) ↔ ((j : ℕ) → j < s.bads → Unsettled m j → ⊥)
    unfolding light_check_of
    light_none = first_none s.bads (λ j. not (is_settled_of p t ls (is j))) _ (λ j b. fails_iff (not (is_settled_of p t ls (is j))) (unsettled_iff j b))

    pub light_refuses : (v : Verdict) → (light_check_of s p t ls m.bads ≡ some v) ↔ ((j : ℕ) × FirstSuch s.bads (Unsettled m) j × (Light (bads_offset s + 2 + bad_row_of p m.bads j) ≡ v))
    unfolding light_check_of
    light_refuses v = first_some s.bads (λ j. not (is_settled_of p t ls (is j))) (λ j b. unsettled_iff j b) (λ j. Light (bads_offset s + 2 + bad_row_of p m.bads j)) v

    light_exact : (light_check_of s p t ls m.bads ≡ none) ↔ ((j : ℕ) → j < s.bads → Settled m j)
    unfolding light_check_of
    light_exact = first_none s.bads (λ j. not (is_settled_of p t ls (is j))) _ (λ j b. Iff.trans (not_iff (is_settled_of p t ls (is j))) (settled_iff j b))

    -- refusals 17 and 18
    pub tests_exact : (tests_of_weights m ≡ none) ↔ Weighed m
    tests_exact =
        Iff.trans (then_iff _ _ (Iff.trans rise_none never_iff) light_exact) (
          λ h. record { never_rise = h.0; settled = h.1 },
          λ x. (x.never_rise, x.settled),
        )

-- Document 02, (v): the change of a rule is what it does to the sum
pub change_exactly : ChangeExactly
change_exactly = change_is
