-- The change of a rule is what it does to the weighed sum of any counts at which it can be used; so a line is raised from some counts exactly where
-- that is above zero.
use Prim.Native.Nat.{ℕ, zero, suc, ◌+◌, ◌-◌, ◌*◌, ◌≤◌, ◌<◌}
use native.Mathlib.Decide.{dec_lt, ℕ_discrete}
use native.Mathlib.Omega.{arith}
use native.Mathlib.Nat.{mul-add, mul-zero}
use mathlib.Core.Path.{◌≡◌, refl, sym, ◌∙◌, ap, subst}
use mathlib.Core.Bool.{Bool, true, false, ◌||◌}
use mathlib.Core.Logic.{◌↔◌, ⊎_elim}
use mathlib.Core.List.Memᴰ
use mathlib.Core.List.{List, [], ◌∷◌, Memᴰ}
use lib.Dec.{leb, ltb, eqb}
use lib.IntN.{ℤ, pos, negsuc, sub_ℕ, ◌+ℤ◌}
use borrow.Author.Tests.{leb-true, le-leb, ltb-true, ltb-false, lt-ltb, eqb-true, eq-eqb, ne_eqb}
use Rattle.model.specs.Index.{total}
use Rattle.model.specs.Words.{Columns, left, right}
use Rattle.model.specs.Rules.{Effect, quiet, reads, puts, starts, Rule}
use Rattle.model.specs.Markings.{Marking, taking, adding, readable, usable, effect_taken, effect_added, fire}
use Rattle.model.specs.Ceilings.{limit_from}
use Rattle.model.specs.Weights.{Line, weighed, effect_put, effect_took, weight_put_of, weight_taken_of, change, above_zero, raised}
use Rattle.model.proofs.Logic.{test, true_false, and_left, and_right, and_intro, or_cases, or_left, or_right}
use Rattle.model.proofs.Index.{total_same, total_plus}
use Rattle.model.proofs.Bounded.Fire.{Apart, Shaped}
use Rattle.model.proofs.Weighed.Least.{pick, only_at, total_at}
use Rattle.model.proofs.Weighed.Rules.{Upto, Low}

-- The number past all counters weighs nothing.
pub past_weighs : (counters : ℕ) (entries : Columns) (n e : ℕ) → limit_from counters entries n e counters ≡ 0
unfolding limit_from
past_weighs counters entries zero e = refl
past_weighs counters entries (suc n) e =
    test (eqb (left entries e) counters)
    (λ h. rw (h, limit_from))
    (λ h. rw (h, limit_from) (rw h (past_weighs counters entries n (e + 1))))

-- Signed numbers

signed : (before after put taken : ℕ) → after + taken ≡ before + put → pos after ≡ pos before +ℤ sub_ℕ put taken
signed before after put taken h =
    test (ltb put taken)
    (λ e. let l = ltb-true put taken e in
    let f : ltb before (suc (taken - suc put)) ≡ false = test (ltb before (suc (taken - suc put))) (λ q. absurd (omega (arith, ltb-true before (suc (taken - suc put)) q))) (λ q. q) in
    let z : after ≡ before - suc (taken - suc put) = omega arith in
    rw (e, f) (ap pos z))
    (λ e. let l = ltb-false put taken e in
    let z : after ≡ before + (put - taken) = omega arith in
    rw e (ap pos z))

above_pos : (n : ℕ) → (above_zero (pos n) ≡ false) ↔ (n ≡ 0)
unfolding above_zero
above_pos zero = (λ h. refl, λ h. refl)
above_pos (suc n) = (λ h. true_false refl h, λ h. absurd (omega arith))

pub above_iff : (put taken : ℕ) → (above_zero (sub_ℕ put taken) ≡ false) ↔ (put ≤ taken)
unfolding above_zero
above_iff put taken =
    test (ltb put taken)
    (λ e. let l = ltb-true put taken e in (λ h. omega arith, λ h. rw e refl))
    (λ e. let l = ltb-false put taken e in
    let (f, g) = above_pos (put - taken) in (
      λ h. let z = f (rw e at h) in omega arith,
      λ h. rw e (g (omega arith)),
    ))

-- One counter, before and after

one_of : (a b c : ℕ) → b ≡ c → a + b * 1 ≡ a + c
one_of a b c h = omega arith

adding_at : (w : Line) (x z : ℕ) (m : Marking) → w z * adding x m z ≡ w z * m z + only_at x (w x) z
unfolding adding
adding_at w x z m =
    test (eqb z x)
    (λ e. let s = eqb-true z x e in rw (e, adding) (mul-add (w z) (m z) 1 ∙ one_of (w z * m z) (w z) (w x) (ap w s)))
    (λ e. rw (e, adding) (omega arith))

adding_else : (x z : ℕ) (m : Marking) → (z ≡ x → ⊥) → adding x m z ≡ m z
unfolding adding
adding_else x z m d = rw (ne_eqb z x d, adding)

taking_at : (w : Line) (x z : ℕ) (m : Marking) → 1 ≤ m x → w z * m z ≡ w z * taking x m z + only_at x (w x) z
unfolding taking
taking_at w x z m one =
    test (eqb z x)
    (λ e. let s = eqb-true z x e in
    let q = ap m s in
    let u : m z ≡ (m z - 1) + 1 = omega arith in
    rw (e, taking) (ap (λ k. w z * k) u ∙ (mul-add (w z) (m z - 1) 1 ∙ one_of (w z * (m z - 1)) (w z) (w x) (ap w s))))
    (λ e. rw (e, taking) (omega arith))

taking_else : (x z : ℕ) (m : Marking) → (z ≡ x → ⊥) → taking x m z ≡ m z
unfolding taking
taking_else x z m d = rw (ne_eqb z x d, taking)

module _ (n : ℕ) (w : Line) (past : w n ≡ 0) where
  abbrev W : Marking → ℕ
  W m = weighed n w m

  -- one more, and one less
  added : (x : ℕ) (m : Marking) → x ≤ n → W (adding x m) ≡ W m + w x
  unfolding weighed
  added x m l = elim (dec_lt x n) [
    | yes b ↦
        let a = total_same 0 n (λ z. w z * adding x m z) (λ z. w z * m z + only_at x (w x) z) (λ z lo hi. adding_at w x z m) in
        let c = total_plus 0 n (λ z. w z * m z) (only_at x (w x)) in
        omega (arith, a, c, total_at n x (w x) b)
    | no b ↦
        let e : x ≡ n = omega arith in
        let a = total_same 0 n (λ z. w z * adding x m z) (λ z. w z * m z) (λ z lo hi. ap (λ u. w z * u) (adding_else x z m (λ d. omega arith))) in
        omega (arith, a, ap w e)
  ]

  took : (x : ℕ) (m : Marking) → x < n → 1 ≤ m x → W m ≡ W (taking x m) + w x
  unfolding weighed
  took x m b one =
      let a = total_same 0 n (λ z. w z * m z) (λ z. w z * taking x m z + only_at x (w x) z) (λ z lo hi. taking_at w x z m one) in
      let c = total_plus 0 n (λ z. w z * taking x m z) (only_at x (w x)) in
      omega (arith, a, c, total_at n x (w x) b)

  -- what an effect takes and adds
  effect_takes : (from : ℕ) (e : Effect) (m : Marking) → Apart n from e → readable e m ≡ true → W (taking from m) ≡ W (effect_taken e (taking from m)) + effect_took w e
  unfolding effect_taken effect_took readable
  effect_takes from quiet m a r = omega arith
  effect_takes from (reads x) m a r = took x (taking from m) a.0 (let e = taking_else from x m a.1 in let l = leb-true 1 (m x) r in omega arith)
  effect_takes from (puts x) m a r = omega arith
  effect_takes from (starts x) m a r = omega arith

  effect_adds : (e : Effect) (m : Marking) → Upto n e → W (effect_added e m) ≡ W m + effect_put w e
  unfolding effect_added effect_put
  effect_adds quiet m u = omega arith
  effect_adds (reads x) m u = omega arith
  effect_adds (puts x) m u = added x m u
  effect_adds (starts x) m u = added x m u

  -- a rule that can be used
  fired : (ρ : Rule) (m : Marking) → Shaped n ρ → Low n ρ → usable ρ m ≡ true → W (fire ρ m) + weight_taken_of w ρ ≡ W m + weight_put_of w ρ
  unfolding fire usable weight_taken_of weight_put_of
  fired ρ m shaped low u =
      let one = leb-true 1 (m ρ.from) (and_left (leb 1 (m ρ.from)) (readable ρ.effect m) u) in
      let a = took ρ.from m shaped.0 one in
      let b = effect_takes ρ.from ρ.effect m shaped.1 (and_right (leb 1 (m ρ.from)) (readable ρ.effect m) u) in
      let c = added ρ.to (effect_taken ρ.effect (taking ρ.from m)) low.0 in
      let d = effect_adds ρ.effect (adding ρ.to (effect_taken ρ.effect (taking ρ.from m))) low.1 in
      omega (arith, a, b, c, d)

  -- as a signed number
  pub changed : (ρ : Rule) (m : Marking) → Shaped n ρ → Low n ρ → usable ρ m ≡ true → pos (W (fire ρ m)) ≡ pos (W m) +ℤ change w ρ
  unfolding change
  changed ρ m shaped low u = signed (W m) (W (fire ρ m)) (weight_put_of w ρ) (weight_taken_of w ρ) (fired ρ m shaped low u)

  -- not above zero: no sum rises
  not_above : (ρ : Rule) → (above_zero (change w ρ) ≡ false) ↔ (weight_put_of w ρ ≤ weight_taken_of w ρ)
  unfolding change
  not_above ρ = above_iff (weight_put_of w ρ) (weight_taken_of w ρ)

  -- counts at which every rule can be used
  all_one : (ρ : Rule) → usable ρ (λ x. 1) ≡ true
  unfolding usable readable
  all_one ρ = and_intro (leb 1 1) (readable ρ.effect (λ x. 1)) (le-leb 1 1 (omega arith)) (each ρ.effect)
    where
      each : (e : Effect) → readable e (λ x. 1) ≡ true
      each quiet = refl
      each (reads x) = refl
      each (puts x) = refl
      each (starts x) = refl

  -- some rule of a list raises the line's sum from some counts
  pub record Up (ρs : List Rule) : Type 0 where
    pub counts : Marking
    pub rule : Rule
    pub listed : Memᴰ rule ρs
    pub used : usable rule counts ≡ true
    pub higher : W counts < W (fire rule counts)

  raised_elim : (ρs : List Rule) → raised w ρs ≡ true → (ρ : Rule) × Memᴰ ρ ρs × (above_zero (change w ρ) ≡ true)
  unfolding raised
  raised_elim [] h = true_false h refl
  raised_elim (ρ ∷ ρs) h =
      ⊎_elim (λ e. (ρ, Memᴰ.head refl, e))
      (λ e. let (σ, m, q) = raised_elim ρs e in (σ, Memᴰ.tail m, q))
      (or_cases (above_zero (change w ρ)) (raised w ρs) h)

  raised_intro : (ρs : List Rule) (ρ : Rule) → Memᴰ ρ ρs → above_zero (change w ρ) ≡ true → raised w ρs ≡ true
  unfolding raised
  raised_intro [] ρ m h = absurd (Memᴰ.not-nil m)
  raised_intro (σ ∷ ρs) ρ m h =
      ⊎_elim (λ e. or_left (above_zero (change w σ)) (raised w ρs) (subst (λ (τ : Rule). above_zero (change w τ) ≡ true) e h))
      (λ l. or_right (above_zero (change w σ)) (raised w ρs) (raised_intro ρs ρ l h))
      (Memᴰ.cases_cons m)

  module _ (ρs : List Rule) (shaped : (ρ : Rule) → Memᴰ ρ ρs → Shaped n ρ) (low : (ρ : Rule) → Memᴰ ρ ρs → Low n ρ) where
    -- the test passes exactly where a rule raises the sum from some counts
    pub raised_iff : (raised w ρs ≡ true) ↔ Up ρs
    unfolding readable
    raised_iff = (
      λ h. let (ρ, m, q) = raised_elim ρs h in
          let f = fired ρ (λ x. 1) (shaped ρ m) (low ρ m) (all_one ρ) in
          let more : weight_taken_of w ρ < weight_put_of w ρ = elim (dec_lt (weight_taken_of w ρ) (weight_put_of w ρ)) [
            | yes l ↦ l
            | no l ↦ true_false q ((not_above ρ).1 (omega arith))
          ] in
          record { counts = λ x. 1; rule = ρ; listed = m; used = all_one ρ; higher = omega (arith, f) },
      λ u. test (above_zero (change w u.rule))
          (λ e. raised_intro ρs u.rule u.listed e)
          (λ e. let z = (not_above u.rule).0 e in
          absurd (omega (arith, fired u.rule u.counts (shaped u.rule u.listed) (low u.rule u.listed) u.used, u.higher))),
    )
