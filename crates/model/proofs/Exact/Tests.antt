-- Tests read as facts, both ways at once.
use Prim.Native.Nat.{ℕ, ◌≤◌, ◌<◌}
use native.Mathlib.Omega.{arith}
use mathlib.Core.Path.{◌≡◌}
use mathlib.Core.Bool.{Bool, true, false, not, ◌&&◌, ◌||◌}
use mathlib.Core.Logic.{◌↔◌, ◌⊎◌, inl, inr, ⊎_elim}
use lib.Dec.{leb, ltb, eqb}
use borrow.Author.Tests.{leb-true, le-leb, ltb-true, lt-ltb, eqb-true, eq-eqb, not-true, not-false}
use Rattle.model.specs.Index.{implies, any, all, first}
use Rattle.model.proofs.Logic.{true_false, test, not_failing, and_left, and_right, and_intro, or_cases, or_left, or_right, implies_elim, implies_intro, not_fails}
use Rattle.model.proofs.Index.{all_elim, all_intro, any_elim, any_intro, any_none, first_is, first_below}

pub leb_iff : (a b : ℕ) → (leb a b ≡ true) ↔ (a ≤ b)
leb_iff a b = (leb-true a b, le-leb a b)

pub ltb_iff : (a b : ℕ) → (ltb a b ≡ true) ↔ (a < b)
ltb_iff a b = (ltb-true a b, lt-ltb a b)

pub eqb_iff : (a b : ℕ) → (eqb a b ≡ true) ↔ (a ≡ b)
eqb_iff a b = (eqb-true a b, eq-eqb a b)

pub not_iff : (b : Bool) → (not b ≡ false) ↔ (b ≡ true)
not_iff b = (not-false b, not_fails b)

-- a test fails where what it says is not so, and passes where what its failing says is not so
pub fails_iff : (b : Bool) {A : Type 0} → (b ≡ true) ↔ A → (b ≡ false) ↔ (A → ⊥)
fails_iff b e = (λ h a. true_false (e.1 a) h, λ n. test b (λ h. absurd (n (e.0 h))) (λ h. h))

pub passes_iff : (b : Bool) {A : Type 0} → (b ≡ false) ↔ A → (b ≡ true) ↔ (A → ⊥)
passes_iff b e = (λ h a. true_false h (e.1 a), λ n. not_failing b (λ h. n (e.0 h)))

pub and_iff : (a b : Bool) {A B : Type 0} → (a ≡ true) ↔ A → (b ≡ true) ↔ B → (a && b ≡ true) ↔ (A × B)
and_iff a b e f = (λ h. (e.0 (and_left a b h), f.0 (and_right a b h)), λ h. and_intro a b (e.1 h.0) (f.1 h.1))

pub or_iff : (a b : Bool) {A B : Type 0} → (a ≡ true) ↔ A → (b ≡ true) ↔ B → (a || b ≡ true) ↔ (A ⊎ B)
or_iff a b e f = (
  λ h. ⊎_elim (λ x. inl (e.0 x)) (λ x. inr (f.0 x)) (or_cases a b h),
  ⊎_elim (λ x. or_left a b (e.1 x)) (λ x. or_right a b (f.1 x)),
)

pub implies_iff : (a b : Bool) {A B : Type 0} → (a ≡ true) ↔ A → (b ≡ true) ↔ B → (implies a b ≡ true) ↔ (A → B)
implies_iff a b e f = (λ h x. f.0 (implies_elim a b h (e.1 x)), λ h. implies_intro a b (λ x. f.1 (h (e.0 x))))

pub all_iff : (n : ℕ) (f : ℕ → Bool) {A : ℕ → Type 0} → ((i : ℕ) → (f i ≡ true) ↔ A i) → (all 0 n f ≡ true) ↔ ((i : ℕ) → i < n → A i)
all_iff n f e = (
  λ h i b. (e i).0 (all_elim 0 n i f h (omega arith) b),
  λ h. all_intro 0 n f (λ i a b. (e i).1 (h i b)),
)

-- not all are exactly where one is not
pub all_refuted : (n : ℕ) (f : ℕ → Bool) {A : ℕ → Type 0} → ((i : ℕ) → (f i ≡ true) ↔ A i) → (all 0 n f ≡ false) ↔ ((i : ℕ) × (i < n) × (A i → ⊥))
all_refuted n f e = (
  λ h. test (any 0 n (λ i. not (f i)))
      (λ t. let (i, w, x) = any_elim 0 n (λ i. not (f i)) t in (i, w.1, λ a. true_false ((e i).1 a) (not-true (f i) x)))
      (λ t. true_false (all_intro 0 n f (λ i a b. not-false (f i) (any_none 0 n i (λ j. not (f j)) t a b))) h),
  λ h. let (i, b, u) = h in (fails_iff (all 0 n f) (all_iff n f e)).1 (λ x. u (x i b)),
)

pub any_iff : (n : ℕ) (f : ℕ → Bool) {A : ℕ → Type 0} → ((i : ℕ) → (f i ≡ true) ↔ A i) → (any 0 n f ≡ true) ↔ ((i : ℕ) × (i < n) × A i)
any_iff n f e = (
  λ h. let (i, w, t) = any_elim 0 n f h in (i, w.1, (e i).0 t),
  λ h. any_intro 0 n h.0 f (omega arith) h.1 ((e h.0).1 h.2),
)

-- there is one exactly where the first is below the end
pub first_iff : (n : ℕ) (f : ℕ → Bool) {A : ℕ → Type 0} → ((i : ℕ) → (f i ≡ true) ↔ A i) → (ltb (first 0 n f) n ≡ true) ↔ ((i : ℕ) × (i < n) × A i)
first_iff n f e = (
  λ h. let b = ltb-true (first 0 n f) n h in (first 0 n f, b, (e (first 0 n f)).0 ((first_is 0 n f (omega arith)).passes b)),
  λ h. let (i, b, t) = h in
      let l = first_below 0 n i f (omega arith) b ((e i).1 t) in
      lt-ltb (first 0 n f) n (omega arith),
)
