-- How many indices pass, and what is known of the others where one or two are known.
use Prim.Native.Nat.{ℕ, zero, suc, ◌+◌, ◌≤◌, ◌<◌}
use native.Mathlib.Decide.{ℕ_discrete}
use native.Mathlib.Omega.{arith}
use mathlib.Core.Path.{◌≡◌, refl, sym, ◌∙◌, ap}
use mathlib.Core.Bool.{Bool, true, false, not, ◌&&◌}
use lib.Dec.{leb, eqb}
use borrow.Author.Tests.{eq-eqb, ne_eqb, leb-false, lt-leb}
use Rattle.model.specs.Index.{count}
use Rattle.model.proofs.Logic.{test, true_false}
use Rattle.model.proofs.Index.{count_end, count_before}
use Rattle.ceilings_masks.proofs.Turning.{counts_same, count_more}

-- the test without index i
drop : ℕ → (ℕ → Bool) → ℕ → Bool
drop i f y = elim (eqb y i) [ true ↦ false | false ↦ f y ]

drop_here : (i : ℕ) (f : ℕ → Bool) → drop i f i ≡ false
unfolding drop
drop_here i f = rw (eq-eqb i i refl, drop)

drop_other : (i y : ℕ) (f : ℕ → Bool) → (y ≡ i → ⊥) → drop i f y ≡ f y
unfolding drop
drop_other i y f h = rw (ne_eqb y i h, drop)

abbrev one_if : Bool → ℕ
one_if b = elim b [ true ↦ 1 | false ↦ 0 ]

count_as : (n : ℕ) (f g : ℕ → Bool) → ((y : ℕ) → y < n → f y ≡ g y) → count 0 n f ≡ count 0 n g
count_as zero f g h = count_end 0 0 f (omega arith) ∙ sym (count_end 0 0 g (omega arith))
count_as (suc n) f g h =
    let z : suc n ≡ n + 1 = omega arith in
    let e = count_as n f g (λ y l. h y (omega arith)) in
    rw z (count_more n f ∙ (rw (e, h n (omega arith)) (sym (count_more n g))))

none_counted : (n : ℕ) (f : ℕ → Bool) → ((y : ℕ) → y < n → f y ≡ false) → count 0 n f ≡ 0
none_counted n f h = counts_same 0 n f (omega arith) (λ y l. h y) ∙ count_end 0 0 f (omega arith)

counted_none : (n y : ℕ) (f : ℕ → Bool) → count 0 n f ≡ 0 → y < n → f y ≡ false
counted_none n y f z h = test (f y) (λ t. absurd (let w = count_before y n f h t in omega arith)) (λ t. t)

-- all but one
drop_after : (n i : ℕ) (f : ℕ → Bool) → i < n → count 0 n f ≡ count 0 n (drop i f) + one_if (f i)
drop_after zero i f h = absurd (omega arith)
drop_after (suc n) i f h = elim (ℕ_discrete n i) [
  | yes e ↦
      let z : suc n ≡ n + 1 = omega arith in
      let a = count_more n f in
      let b = count_more n (drop i f) in
      let same : count 0 n (drop i f) ≡ count 0 n f = count_as n (drop i f) f (λ y l. drop_other i y f (λ w. omega arith)) in
      let none : one_if (drop i f n) ≡ 0 = ap one_if (ap (drop i f) e ∙ drop_here i f) in
      let here : one_if (f n) ≡ one_if (f i) = ap (λ y. one_if (f y)) e in
      rw z (omega (arith, a, b, same, none, here))
  | no e ↦
      let z : suc n ≡ n + 1 = omega arith in
      let a = count_more n f in
      let b = count_more n (drop i f) in
      let same : one_if (drop i f n) ≡ one_if (f n) = ap one_if (drop_other i n f e) in
      let before = drop_after n i f (omega arith) in
      rw z (omega (arith, a, b, same, before))
]

drop_one : (n i : ℕ) (f : ℕ → Bool) → i < n → f i ≡ true → count 0 n f ≡ count 0 n (drop i f) + 1
drop_one n i f h t = drop_after n i f h ∙ rw t

drop_most : (n i : ℕ) (f : ℕ → Bool) → i < n → count 0 n f ≤ count 0 n (drop i f) + 1
drop_most n i f h = test (f i) (λ t. let a = drop_one n i f h t in omega arith) (λ t. let a = drop_after n i f h in let b : one_if (f i) ≡ 0 = ap one_if t in omega (arith, a, b))

module _ (n : ℕ) (f : ℕ → Bool) where
  -- none passes
  pub none_others : leb 1 (count 0 n f) ≡ false → (y : ℕ) → y < n → f y ≡ false
  none_others h y l = let z = leb-false 1 (count 0 n f) h in counted_none n y f (omega arith) l

  pub others_none : ((y : ℕ) → y < n → f y ≡ false) → leb 1 (count 0 n f) ≡ false
  others_none h = let z = none_counted n f h in lt-leb 1 (count 0 n f) (omega arith)

  module _ (i : ℕ) (inside : i < n) where
    -- i alone may pass
    pub one_others : f i ≡ true → leb 2 (count 0 n f) ≡ false → (y : ℕ) → y < n → (y ≡ i → ⊥) → f y ≡ false
    one_others t h y l d =
        let z = leb-false 2 (count 0 n f) h in
        let a = drop_one n i f inside t in
        sym (drop_other i y f d) ∙ counted_none n y (drop i f) (omega arith) l

    pub others_one : ((y : ℕ) → y < n → (y ≡ i → ⊥) → f y ≡ false) → leb 2 (count 0 n f) ≡ false
    others_one h =
        let a = drop_most n i f inside in
        let b = none_counted n (drop i f) (λ y l. elim (ℕ_discrete y i) [ yes e ↦ ap (drop i f) e ∙ drop_here i f | no e ↦ drop_other i y f e ∙ h y l e ]) in
        lt-leb 2 (count 0 n f) (omega arith)

    module _ (x : ℕ) (inside' : x < n) (apart : x ≡ i → ⊥) where
      -- i and x alone may pass
      pub two_others : f i ≡ true → f x ≡ true → leb 3 (count 0 n f) ≡ false → (y : ℕ) → y < n → (y ≡ i → ⊥) → (y ≡ x → ⊥) → f y ≡ false
      two_others t t' h y l d d' =
          let z = leb-false 3 (count 0 n f) h in
          let a = drop_one n i f inside t in
          let b = drop_one n x (drop i f) inside' (drop_other i x f apart ∙ t') in
          sym (drop_other i y f d) ∙ (sym (drop_other x y (drop i f) d') ∙ counted_none n y (drop x (drop i f)) (omega arith) l)

      pub others_two : ((y : ℕ) → y < n → (y ≡ i → ⊥) → (y ≡ x → ⊥) → f y ≡ false) → leb 3 (count 0 n f) ≡ false
      others_two h =
          let a = drop_most n i f inside in
          let b = drop_most n x (drop i f) inside' in
          let c = none_counted n (drop x (drop i f)) (λ y l. elim (ℕ_discrete y x) [
            | yes e ↦ ap (drop x (drop i f)) e ∙ drop_here x (drop i f)
            | no e ↦ drop_other x y (drop i f) e ∙ elim (ℕ_discrete y i) [
              | yes d ↦ ap (drop i f) d ∙ drop_here i f
              | no d ↦ drop_other i y f d ∙ h y l d e
            ]
          ]) in
          lt-leb 3 (count 0 n f) (omega arith)
