-- The first line that a rule raises, state by state; the weights of the table are those of the lines, for every counter that a rule has.
use Prim.Native.Nat.{ℕ, ◌+◌, ◌*◌, ◌≤◌, ◌<◌, zero-le}
use native.Mathlib.Decide.{dec_lt}
use native.Mathlib.Omega.{arith}
use mathlib.Core.Path.{◌≡◌, refl, sym, ◌∙◌, ap, ap₂}
use mathlib.Core.Bool.{Bool, ◌||◌}
use mathlib.Core.List.{List, [], ◌∷◌, ◌++◌, Memᴰ}
use lib.ListN.{length, get_or}
use lib.Dec.{eqb}
use lib.IntN.{sub_ℕ}
use borrow.Author.Tests.{eq-eqb}
use Rattle.model.specs.declared.Sizes.{Sizes}
use Rattle.model.specs.declared.Verdict.TheVariants.{Rise}
use Rattle.model.specs.Verdict.{unless}
use Rattle.model.specs.Message.{weights_offset}
use Rattle.model.specs.Verify.{outcome}
use Rattle.model.specs.Index.{first, gather}
use Rattle.model.specs.Words.{right}
use Rattle.model.specs.Rows.{Program, program, tag}
use Rattle.model.specs.Tables.{Tables, tables, state_at}
use Rattle.model.specs.Counters.{counter_count}
use Rattle.model.specs.Rules.{Effect, quiet, reads, puts, starts, Rule, state_rules_of, rules}
use Rattle.model.specs.Weights.{weight_entries, Line, lines_of, effect_put, effect_took, weight_put_of, weight_taken_of, change, above_zero, raised, rise_check_of}
use Rattle.model.proofs.Outcome.{passes_unless}
use Rattle.model.proofs.Index.{first_is, first_unique, gather_end, gather_turn}
use Rattle.model.proofs.Bounded.Fire.{Apart, Shaped}
use Rattle.model.proofs.Bounded.Shaped.{rules_shaped}
use Rattle.model.proofs.Weighed.Rules.{Upto, Low, rules_low}
use Rattle.model.proofs.Weighed.Change.{past_weighs}
use Rattle.model.proofs.Logic.{or_joined}
use Rattle.rules.specs.Listed.{listed_rules, StateRules}
use Rattle.rules.proofs.Gather.{gather_same}
use Rattle.rules.proofs.Stepped.{listed_step}
use Rattle.steps.specs.Steps.{effect_kind_of}
use Rattle.weights.specs.Table.{WeightsTable, BeginsTable}
use Rattle.weights_change.specs.Changes.{weight_of, step_rules}
use Rattle.weights_change.proofs.Weighing.{weight_below, weight_past}
use Rattle.weights_change.proofs.Raised.{first_or, first_by, first_by_none}

raised_append : (w : Line) (xs ys : List Rule) → raised w (xs ++ ys) ≡ (raised w xs || raised w ys)
unfolding raised
raised_append w [] ys = refl
raised_append w (ρ ∷ xs) ys = ap (λ b. above_zero (change w ρ) || b) (raised_append w xs ys) ∙ or_joined (above_zero (change w ρ)) (raised w xs) (raised w ys)

-- lines that change alike are raised alike
raised_same : (w w' : Line) (ρs : List Rule) → ((ρ : Rule) → Memᴰ ρ ρs → change w ρ ≡ change w' ρ) → raised w ρs ≡ raised w' ρs
unfolding raised
raised_same w w' [] h = refl
raised_same w w' (ρ ∷ ρs) h = ap₂ (λ z b. above_zero z || b) (h ρ (Memᴰ.head refl)) (raised_same w w' ρs (λ σ m. h σ (Memᴰ.tail m)))

-- the weights of the counters up to n are all that a rule asks for
module _ (n : ℕ) (w w' : Line) (same : (x : ℕ) → x ≤ n → w x ≡ w' x) where
  put_same : (e : Effect) → Upto n e → effect_put w e ≡ effect_put w' e
  unfolding effect_put
  put_same quiet u = refl
  put_same (reads x) u = refl
  put_same (puts x) u = same x u
  put_same (starts x) u = same x u

  took_same : (from : ℕ) (e : Effect) → Apart n from e → effect_took w e ≡ effect_took w' e
  unfolding effect_took
  took_same from quiet a = refl
  took_same from (reads x) a = same x (omega (arith, a.0))
  took_same from (puts x) a = refl
  took_same from (starts x) a = refl

  pub change_same : (ρ : Rule) → Shaped n ρ → Low n ρ → change w ρ ≡ change w' ρ
  unfolding change weight_put_of weight_taken_of
  change_same ρ shaped low =
      ap₂ sub_ℕ (ap₂ (λ a b. a + b) (same ρ.to low.0) (put_same ρ.effect low.1))
      (ap₂ (λ a b. a + b) (same ρ.from (omega (arith, shaped.0))) (took_same ρ.from ρ.effect shaped.1))

first_same : (u : ℕ) (f g : ℕ → Bool) → ((k : ℕ) → k < u → f k ≡ g k) → first 0 u f ≡ first 0 u g
first_same u f g h =
    let b = first_is 0 u g zero-le in
    first_unique 0 u (first 0 u g) f zero-le
    (record {
      from = zero-le;
      upto = b.upto;
      passes = λ l. h (first 0 u g) l ∙ b.passes l;
      before = λ j lo hi. h j (omega (arith, b.upto)) ∙ b.before j lo hi;
    })

-- the rules of state i as the lists have them
pub of_kind : (p : Program) (t : Tables) (i kd m : ℕ) (tos others : List ℕ) → StateRules p t i tos others m → kd ≡ effect_kind_of (tag p (right t.states i)) → step_rules kd i tos others m ≡ state_rules_of p t i (state_at t i)
unfolding step_rules listed_rules
of_kind p t i kd m tos others r e =
    rw e
    (gather_same 0 m _ _ (λ j lo hi. ap (λ ρ. ρ ∷ []) (sym (listed_step (tag p (right t.states i)) i tos others j))) ∙ r.rules)

module _ (p : Program) (t : Tables) (w : ℕ → Line) (lines : ℕ) where
  abbrev of_state : ℕ → List Rule
  of_state i = state_rules_of p t i (state_at t i)

  -- what all states give, those from i on give below the first line so far
  pub record SoFar (i line : ℕ) : Type 0 where
    pub same : first_by w lines (rules p t) ≡ first_by w line (gather i t.states.size of_state)
    pub upto : line ≤ lines

  pub so_far_start : SoFar 0 lines
  unfolding rules
  so_far_start = record { same = refl; upto = omega arith }

  module _ (i line : ℕ) (h : SoFar i line) where
    pub so_far_next : (kd m line' : ℕ) (tos others : List ℕ) → i < t.states.size → StateRules p t i tos others m → kd ≡ effect_kind_of (tag p (right t.states i)) → line' ≡ first 0 line (λ k. raised (w k) (step_rules kd i tos others m)) → line' ≤ line → SoFar (i + 1) line'
    so_far_next kd m line' tos others below r e z l =
        let behind : List Rule = gather (i + 1) t.states.size of_state in
        let z' : line' ≡ first 0 line (λ k. raised (w k) (of_state i)) = rw (of_kind p t i kd m tos others r e) at z in
        let turn : first_by w line (gather i t.states.size of_state) ≡ first_by w line (of_state i ++ behind) = ap (λ ρs. first_by w line ρs) (gather_turn i t.states.size of_state below) in
        let split : first_by w line (of_state i ++ behind) ≡ first 0 line (λ k. raised (w k) (of_state i) || raised (w k) behind) = ap (first 0 line) (λ d k. raised_append (w k) (of_state i) behind d) in
        record {
          same = h.same ∙ (turn ∙ (split ∙ (first_or line (λ k. raised (w k) (of_state i)) (λ k. raised (w k) behind) ∙ ap (λ u. first_by w u behind) (sym z'))));
          upto = omega (arith, h.upto, l);
        }

    pub so_far_end : t.states.size ≤ i → line ≡ first_by w lines (rules p t)
    so_far_end end = sym (h.same ∙ (ap (λ ρs. first_by w line ρs) (gather_end i t.states.size of_state end) ∙ first_by_none w line))

-- the lines of a message
module _ (ws : List ℕ) (s : Sizes) (n : ℕ) (weights : List ℕ) (table : WeightsTable (lines_of ws s n) weights) where
  pub room : n * s.lines ≤ length weights
  unfolding lines_of
  room = table.room

  weighs : (k x : ℕ) → k < s.lines → x ≤ n → weight_of weights s.lines n k x ≡ (lines_of ws s n).weight k x
  unfolding lines_of
  weighs k x h l = elim (dec_lt x n) [
    | yes b ↦ sym (weight_below weights s.lines n k x b) ∙ table.weight k x h b
    | no b ↦
        let z : x ≡ n = omega arith in
        sym (weight_past weights s.lines n k x (omega arith)) ∙ rw z (sym (past_weighs n (weight_entries ws s) _ _))
  ]

  pub by_lines : n ≡ counter_count (program ws s) (tables ws s) → first_by (weight_of weights s.lines n) s.lines (rules (program ws s) (tables ws s)) ≡ first 0 s.lines (λ k. raised ((lines_of ws s n).weight k) (rules (program ws s) (tables ws s)))
  by_lines counted =
      first_same s.lines _ _
      (λ k h. raised_same (weight_of weights s.lines n k) ((lines_of ws s n).weight k) (rules (program ws s) (tables ws s))
      (λ ρ m. change_same n _ _ (λ x l. weighs k x h l) ρ (rw counted (rules_shaped (program ws s) (tables ws s) ρ m)) (rw counted (rules_low (program ws s) (tables ws s) ρ m))))

module _ (ws : List ℕ) (s : Sizes) (n : ℕ) (starts' : List ℕ) (begins : BeginsTable n (weight_entries ws s) s.lines starts') (ρs : List Rule) where
  pub rise_told : (line : ℕ) → line ≡ first 0 s.lines (λ k. raised ((lines_of ws s n).weight k) ρs) → line ≤ s.lines → outcome (unless (eqb line s.lines) (Rise (weights_offset s + 2 + get_or starts' line 0))) ≡ outcome (rise_check_of ws s (lines_of ws s n) ρs)
  unfolding rise_check_of lines_of
  rise_told line e l =
      rw (← e)
      (elim (dec_lt line s.lines) [
        | yes b ↦ ap (λ x. outcome (unless (eqb line s.lines) (Rise (weights_offset s + 2 + x)))) (begins.start line b)
        | no b ↦
            let z : line ≡ s.lines = omega arith in
            sym (passes_unless _ _ (eq-eqb line s.lines z)) ∙ passes_unless _ _ (eq-eqb line s.lines z)
      ])
