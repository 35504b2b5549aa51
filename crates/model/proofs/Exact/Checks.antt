-- Laws of checks: when one refuses nothing, and what it refuses otherwise. (Of `Option·map` mathlib has them: `map_eq_none_iff`, `map-eq-some_iff`.)
use Prim.Native.Nat.{ℕ, ◌<◌}
use native.Mathlib.Omega.{arith}
use mathlib.Core.Path.{◌≡◌, refl, ap, ◌∙◌}
use mathlib.Core.Bool.{Bool, true, false}
use mathlib.Core.Logic.Iff
use mathlib.Core.Logic.{◌↔◌, ◌⊎◌, inl, inr, ⊎_elim}
use mathlib.Core.Option.{some, none, some-injective, none-ne-some, some-ne-none}
use lib.Dec.{eqb}
use borrow.Author.Tests.{eqb-true, eq-eqb}
use Rattle.model.specs.declared.Verdict.{Verdict}
use Rattle.model.specs.Index.{first}
use Rattle.model.specs.Verdict.{Check, ◌>>◌, unless}
use Rattle.model.specs.Refusals.{FirstSuch}
use Rattle.model.proofs.Logic.{true_false}
use Rattle.model.proofs.Index.{First, first_is, first_unique}
use Rattle.model.proofs.Exact.Tests.{fails_iff}

-- two checks in order refuse nothing exactly where neither does
pub then_none : (a b : Check) → ((a >> b) ≡ none) ↔ ((a ≡ none) × (b ≡ none))
unfolding ◌>>◌
then_none (some v) b = (λ h. absurd (some-ne-none v h), λ h. h.0)
then_none none b = (λ h. (refl, h), λ h. h.1)

pub then_iff : (a b : Check) {A B : Type 0} → (a ≡ none) ↔ A → (b ≡ none) ↔ B → ((a >> b) ≡ none) ↔ (A × B)
then_iff a b e f = Iff.trans (then_none a b) (Iff.and e f)

-- the first one's refusal, or the second's where the first refuses nothing
pub then_some : (a b : Check) (v : Verdict) → ((a >> b) ≡ some v) ↔ ((a ≡ some v) ⊎ ((a ≡ none) × (b ≡ some v)))
unfolding ◌>>◌
then_some (some w) b v = (inl, ⊎_elim (λ h. h) (λ h. absurd (some-ne-none w h.0)))
then_some none b v = (λ h. inr (refl, h), ⊎_elim (λ h. absurd (none-ne-some v h)) (λ h. h.1))

pub then_some_iff : (a b : Check) (v : Verdict) {A L M : Type 0} → (a ≡ none) ↔ A → (a ≡ some v) ↔ L → (b ≡ some v) ↔ M → ((a >> b) ≡ some v) ↔ (L ⊎ (A × M))
then_some_iff a b v e f g =
    Iff.trans (then_some a b v) (
      ⊎_elim (λ h. inl (f.0 h)) (λ h. inr (e.0 h.0, g.0 h.1)),
      ⊎_elim (λ h. inl (f.1 h)) (λ h. inr (e.1 h.0, g.1 h.1)),
    )

pub unless_none : (b : Bool) (v : Verdict) → (unless b v ≡ none) ↔ (b ≡ true)
unfolding unless
unless_none true v = (λ h. refl, λ h. refl)
unless_none false v = (λ h. absurd (some-ne-none v h), λ h. true_false h refl)

pub unless_iff : (b : Bool) (v : Verdict) {A : Type 0} → (b ≡ true) ↔ A → (unless b v ≡ none) ↔ A
unless_iff b v e = Iff.trans (unless_none b v) e

pub unless_some : (b : Bool) (v w : Verdict) → (unless b v ≡ some w) ↔ ((b ≡ false) × (v ≡ w))
unfolding unless
unless_some true v w = (λ h. absurd (none-ne-some w h), λ h. true_false refl h.0)
unless_some false v w = (λ h. (refl, some-injective v w h), λ h. ap some h.1)

-- a test refuses exactly where what it asks is not so
pub unless_refutes : (b : Bool) (v w : Verdict) {A : Type 0} → (b ≡ true) ↔ A → (unless b v ≡ some w) ↔ ((A → ⊥) × (v ≡ w))
unless_refutes b v w e = Iff.trans (unless_some b v w) (Iff.and (fails_iff b e) Iff.rfl)

-- A check of n elements that refuses the first one with a fault: nothing is refused where each is good,
pub first_none : (n : ℕ) (fault : ℕ → Bool) (v : Verdict) {Good : ℕ → Type 0} → ((i : ℕ) → i < n → (fault i ≡ false) ↔ Good i) → (unless (eqb (first 0 n fault) n) v ≡ none) ↔ ((i : ℕ) → i < n → Good i)
first_none n fault v good = (
  λ h i b. let e = eqb-true _ n ((unless_none _ _).0 h) in (good i b).0 ((first_is 0 n fault (omega arith)).before i (omega arith) (omega arith)),
  λ h. (unless_none _ _).1
      (eq-eqb _ n (first_unique 0 n n fault (omega arith)
      (record { from = omega arith; upto = omega arith; passes = λ b. absurd (omega arith); before = λ j a b. (good j b).1 (h j b) }))),
)

-- or the first that has one
pub first_some : (n : ℕ) (fault : ℕ → Bool) {Such : ℕ → Type 0} → ((i : ℕ) → i < n → (fault i ≡ true) ↔ Such i) → (v : ℕ → Verdict) (w : Verdict) → (unless (eqb (first 0 n fault) n) (v (first 0 n fault)) ≡ some w) ↔ ((i : ℕ) × FirstSuch n Such i × (v i ≡ w))
first_some n fault {Such} such v w = (
  λ h. let r = first_is 0 n fault (omega arith) in
      let (ne, q) = refutes.0 h in
      let b : k < n = omega (arith, r.upto) in (
        k,
        record {
          below = b;
          such = (such k b).0 (r.passes b);
          before = λ j a x. true_false ((such j (omega arith)).1 x) (r.before j (omega arith) a);
        },
        q,
      ),
  λ h. let (i, f, q) = h in
      let b : i < n = f.below in
      let is : First 0 n fault i = record {
        from = omega arith;
        upto = omega arith;
        passes = λ z. (such i b).1 f.such;
        before = λ j a z. (fails_iff (fault j) (such j (omega arith))).1 (f.before j z);
      } in
      let e : k ≡ i = first_unique 0 n i fault (omega arith) is in
      refutes.1 (λ z. omega arith, ap v e ∙ q),
)
  where
    k : ℕ
    k = first 0 n fault

    refutes : (unless (eqb k n) (v k) ≡ some w) ↔ (((k ≡ n) → ⊥) × (v k ≡ w))
    refutes = unless_refutes (eqb k n) (v k) w (eqb-true k n, eq-eqb k n)
