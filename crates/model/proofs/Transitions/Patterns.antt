-- Patterns against values: `match` (specs/Matching.antt) is `Match`.
use Prim.Native.Nat.{ℕ, zero, suc, ◌+◌, ◌-◌, ◌≤◌, ◌<◌}
use native.Mathlib.Omega.{arith}
use mathlib.Core.Path.{◌≡◌, refl, ◌∙◌}
use mathlib.Core.Bool.{true, false}
use mathlib.Core.Logic.{inl, inr, ⊎_elim}
use mathlib.Core.Option.{some, some-injective, none-ne-some}
use lib.Dec.{eqb}
use borrow.Author.Tests.{eqb-true, ne_eqb}
use Rattle.model.specs.Rows.{Program, size, tag, num}
use Rattle.model.specs.Values.{Value, built, Bindings, empty, bind, join, arguments_of}
use Rattle.model.specs.Matching.{passes_over, match_rows, match}
use Rattle.model.specs.Patterns.{RowAt, Holds, Equal, MatchesAt, by_name, by_constructor, by_any, by_held, MatchesEach, no_values, one_value, Match}
use Rattle.model.proofs.Logic.{test}
use Rattle.model.proofs.Reader.{by_option}
use Rattle.model.proofs.Transitions.Exactly.{Exactly}
use Rattle.model.proofs.Transitions.Equality.{made_of, of_made, passes_over_iff}

module _ (p : Program) (held : Bindings) where
  -- values and then others, against patterns
  record Split (q : ℕ) (us vs found found' : Bindings) (e : ℕ) : Type 0 where
    row : ℕ
    between : Bindings
    first : MatchesEach p held q us found between row
    others : MatchesEach p held row vs between found' e

  split : (us : Bindings) {q e : ℕ} {vs found found' : Bindings} → MatchesEach p held q (join us vs) found found' e → Split q us vs found found' e
  unfolding join
  split empty {q} {found = found} k = record { row = q; between = found; first = no_values; others = k }
  split (bind n u us) (one_value h k) =
      let s = split us k in
      record { row = s.row; between = s.between; first = one_value h s.first; others = s.others }

  -- the values match, up to some row
  abbrev Matching : (q : ℕ) (vs found found' : Bindings) → Type 0
  Matching q vs found found' = (e : ℕ) × MatchesEach p held q vs found found' e

  one_more : {q row m : ℕ} {v : Value} {vs found between found' : Bindings} → MatchesAt p held q v found between row → Matching row vs between found' → Matching q (bind m v vs) found found'
  one_more h k = (k.0, one_value h k.1)

  made_more : (inner : Bindings) (r c : ℕ) {q m : ℕ} {v : Value} {vs found found' : Bindings} → v ≡ built r c inner → RowAt p q 31 c → Matching (q + 1) (join inner vs) found found' → Matching q (bind m v vs) found found'
  made_more inner r c made at k = let s = split inner k.1 in (k.0, rw made (one_value (by_constructor at s.first) s.others))

  each_has : (n q : ℕ) (vs found found' : Bindings) → n ≡ size p - q → match_rows p held n q vs found ≡ some found' → Matching q vs found found'
  unfolding match_rows
  each_has zero q empty found found' z h = (q, rw (← some-injective found found' h) no_values)
  each_has zero q (bind m v vs) found found' z h = absurd (none-ne-some found' h)
  each_has (suc n) q empty found found' z h = (q, rw (← some-injective found found' h) no_values)
  each_has (suc n) q (bind m v vs) found found' z h =
      test (eqb (tag p q) 31)
      (λ e. by_option (arguments_of (num p q) v)
      (λ a. absurd (none-ne-some found' (rw (e, match_rows, a) at h)))
      (λ inner a.
      let (r, made) = made_of (num p q) v inner a in
      made_more inner r (num p q) made (at 31 (num p q) (eqb-true (tag p q) 31 e) refl)
      (each_has n (q + 1) (join inner vs) found found' (omega arith) (rw (e, match_rows, a) at h))))
      (λ e. test (eqb (tag p q) 30)
      (λ f. one_more (by_name (at 30 (num p q) (eqb-true (tag p q) 30 f) refl))
      (each_has n (q + 1) vs (bind (num p q) v found) found' (omega arith) (rw (e, match_rows, f) at h)))
      (λ f. test (passes_over p held q v)
      (λ g. one_more (passed g) (each_has n (q + 1) vs found found' (omega arith) (rw (e, match_rows, f, g) at h)))
      (λ g. absurd (none-ne-some found' (rw (e, match_rows, f, g) at h)))))
    where
      at : (t k : ℕ) → tag p q ≡ t → num p q ≡ k → RowAt p q t k
      at t k tagged numbered = record { below = omega arith; tagged = tagged; numbered = numbered }

      passed : passes_over p held q v ≡ true → MatchesAt p held q v found found (q + 1)
      passed g =
          ⊎_elim (λ a. by_any (at 32 (num p q) a refl)) (λ a. let (b, (w, k, x)) = a in by_held (at 33 (num p q) b refl) k x)
          ((passes_over_iff p held q v).0 g)

  -- one row: the rows left are one more than behind it
  turn : {q t n : ℕ} → RowAt p q t n → size p - q ≡ suc (size p - (q + 1))
  turn r = omega (arith, r.below)

  module _ (w : ℕ) (v : Value) (vs found : Bindings) {q n : ℕ} where
    name_turn : RowAt p q 30 n → match_rows p held (size p - q) q (bind w v vs) found ≡ match_rows p held (size p - (q + 1)) (q + 1) vs (bind n v found)
    unfolding match_rows
    name_turn r = rw (turn r, match_rows, r.tagged, r.tagged, r.numbered)

    over_turn : {t : ℕ} → RowAt p q t n → 32 ≤ t → passes_over p held q v ≡ true → match_rows p held (size p - q) q (bind w v vs) found ≡ match_rows p held (size p - (q + 1)) (q + 1) vs found
    unfolding match_rows
    over_turn r l g =
        let other : (k : ℕ) → k < 32 → eqb (tag p q) k ≡ false = λ k b. ne_eqb (tag p q) k (λ z. omega (arith, r.tagged)) in
        rw (turn r, match_rows, other 31 (omega arith), other 30 (omega arith), g)

    any_turn : RowAt p q 32 n → match_rows p held (size p - q) q (bind w v vs) found ≡ match_rows p held (size p - (q + 1)) (q + 1) vs found
    any_turn r = over_turn r (omega arith) ((passes_over_iff p held q v).1 (inl r.tagged))

    held_turn : (u : Value) → RowAt p q 33 n → Holds p held n u → Equal v u → match_rows p held (size p - q) q (bind w v vs) found ≡ match_rows p held (size p - (q + 1)) (q + 1) vs found
    held_turn u r k x = over_turn r (omega arith) ((passes_over_iff p held q v).1 (inr (r.tagged, (u, rw r.numbered k, x))))

  made_turn : (w r : ℕ) (us vs found : Bindings) {q k : ℕ} → RowAt p q 31 k → match_rows p held (size p - q) q (bind w (built r k us) vs) found ≡ match_rows p held (size p - (q + 1)) (q + 1) (join us vs) found
  unfolding match_rows
  made_turn w r us vs found {k = k} h = rw (turn h, match_rows, h.tagged, h.numbered, of_made k r us)

  -- where one pattern, or one for each value, is passed, the function goes on behind it with what is found then
  abbrev Goes_on : (q : ℕ) (us found found' : Bindings) (m : ℕ) → Type 0
  Goes_on q us found found' m = (vs : Bindings) → match_rows p held (size p - q) q (join us vs) found ≡ match_rows p held (size p - m) m vs found'

  one_gives : {q m : ℕ} {v : Value} {found found' : Bindings} → MatchesAt p held q v found found' m → (w : ℕ) → Goes_on q (bind w v empty) found found' m
  unfolding join
  one_gives t =
      elim t as (λ q v found found' m y. (w : ℕ) → Goes_on q (bind w v empty) found found' m) (λ q us found found' m y. Goes_on q us found found' m) [
        | by_name {v = v} {found = found} r ↦ λ w vs. name_turn w v vs found r
        | by_constructor {r = at} {vs = us} {found = found} r (k → inner) ↦ λ w vs. made_turn w at us vs found r ∙ inner vs
        | by_any {v = v} {found = found} r ↦ λ w vs. any_turn w v vs found r
        | by_held {v = v} {w = u} {found = found} r k x ↦ λ w vs. held_turn w v vs found u r k x
        | no_values ↦ λ vs. refl
        | one_value {n = n} {vs = us} (h → one) (k → others) ↦ λ vs. one n (join us vs) ∙ others vs
      ]

  no_more : (n q : ℕ) (found : Bindings) → match_rows p held n q empty found ≡ some found
  unfolding match_rows
  no_more zero q found = refl
  no_more (suc n) q found = refl

  -- one value alone
  alone : {q n e : ℕ} {v : Value} {found found' : Bindings} → MatchesEach p held q (bind n v empty) found found' e → MatchesAt p held q v found found' e
  alone (one_value h no_values) = h

  pub match_exactly : (q : ℕ) (v : Value) → Exactly (match p held q v) (Match p held q v)
  unfolding match join
  match_exactly q v =
      record {
        has = λ held' h. let (e, k) = each_has (size p - q) q (bind 0 v empty) held held' refl h in (e, alone k);
        gives = λ held' k. one_gives k.1 0 empty ∙ no_more (size p - k.0) k.0 held';
      }
