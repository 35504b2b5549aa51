-- What counts have on a set beyond others is put on the set's lightest place: the weighed sum does not rise. So filling in what an item lacks stays
-- below some counts that meet all items and weigh no more.
use Prim.Native.Nat.{ℕ, ◌+◌, ◌-◌, ◌*◌, ◌≤◌, ◌<◌}
use native.Mathlib.Omega.{arith}
use native.Mathlib.Nat.{mul-le-mul_right, mul-add, mul-zero}
use mathlib.Core.Path.{◌≡◌, refl, sym, ◌∙◌, ap}
use mathlib.Core.Bool.{Bool, true, false}
use mathlib.Core.Logic.{◌⊎◌, ⊎_elim}
use lib.Dec.{eqb}
use borrow.Author.Tests.{eqb-true, eq-eqb, ne_eqb}
use Rattle.model.specs.Index.{total}
use Rattle.model.proofs.Logic.{test}
use Rattle.model.proofs.Index.{total_same, total_plus, total_one, total_le, total_times}

abbrev pub Count : Type 0
Count = ℕ → ℕ

-- one of two numbers, by a test
abbrev pub pick : Bool → ℕ → ℕ → ℕ
pick b v u = elim b [ true ↦ v | false ↦ u ]

-- v at one place, nothing elsewhere
abbrev pub only_at : ℕ → ℕ → Count
only_at y v x = pick (eqb x y) v 0

pub total_at : (n y v : ℕ) → y < n → total 0 n (only_at y v) ≡ v
total_at n y v l =
    total_one 0 n y (only_at y v) (omega arith) l (λ j d. let e = ne_eqb j y d in rw e refl) ∙ (let e = eq-eqb y y refl in rw e refl)

pub pick_plus : (b : Bool) (u v z : ℕ) → u ≡ v + z → pick b u 0 ≡ pick b v 0 + pick b z 0
pick_plus true u v z h = h
pick_plus false u v z h = refl

pub pick_le : (b : Bool) (u v : ℕ) → u ≤ v → pick b u 0 ≤ pick b v 0
pick_le true u v h = h
pick_le false u v h = omega arith

-- at a place of the set
pub pick_there : (T : ℕ → Bool) (y v x : ℕ) → T y ≡ true → pick (T x) (only_at y v x) 0 ≡ only_at y v x
pick_there T y v x h =
    test (eqb x y)
    (λ e. let z = eqb-true x y e in rw (e, z, h) refl)
    (λ e. rw e (none (T x)))
  where
    none : (b : Bool) → pick b 0 0 ≡ 0
    none true = refl
    none false = refl

split : (b : Bool) (a m : ℕ) → a ≤ m → pick b a m + pick b (m - a) 0 ≡ m
split true a m h = omega arith
split false a m h = omega arith

lighter : (b : Bool) (v u e : ℕ) → (b ≡ true → v ≤ u) → v * pick b e 0 ≤ u * pick b e 0
lighter true v u e h = mul-le-mul_right e (h refl)
lighter false v u e h = omega (arith, mul-zero v, mul-zero u)

pick_least : (b : Bool) (u v : ℕ) → u ≤ v → u ≤ pick b u v
pick_least true u v h = omega arith
pick_least false u v h = h

-- the sum of counts on a set
abbrev pub sum_on : ℕ → (ℕ → Bool) → Count → ℕ
sum_on n S f = total 0 n (λ x. pick (S x) (f x) 0)

module _ (n : ℕ) (w : Count) (S : ℕ → Bool) (y : ℕ) (inside : y < n) (light : (x : ℕ) → S x ≡ true → w y ≤ w x) (a m : Count) (dom : (x : ℕ) → a x ≤ m x) where
  abbrev base : Count
  base x = pick (S x) (a x) (m x)

  abbrev excess : Count
  excess x = pick (S x) (m x - a x) 0

  abbrev exchanged : Count
  exchanged x = base x + only_at y (total 0 n excess) x

  scaled_at : (x v : ℕ) → w x * only_at y v x ≡ only_at y (w y * v) x
  scaled_at x v =
      test (eqb x y)
      (λ e. let z = eqb-true x y e in rw (e, z) refl)
      (λ e. rw e (mul-zero (w x)))

  weighs_no_more : total 0 n (λ x. w x * exchanged x) ≤ total 0 n (λ x. w x * m x)
  weighs_no_more =
      let e = total 0 n excess in
      let l1 = total_same 0 n (λ x. w x * exchanged x) (λ x. w x * base x + only_at y (w y * e) x) (λ x lo hi. mul-add (w x) (base x) (only_at y e x) ∙ ap (λ z. w x * base x + z) (scaled_at x e)) in
      let l2 = total_plus 0 n (λ x. w x * base x) (only_at y (w y * e)) in
      let l3 = total_at n y (w y * e) inside in
      let r1 = total_same 0 n (λ x. w x * m x) (λ x. w x * base x + w x * excess x) (λ x lo hi. ap (λ z. w x * z) (sym (split (S x) (a x) (m x) (dom x))) ∙ mul-add (w x) (base x) (excess x)) in
      let r2 = total_plus 0 n (λ x. w x * base x) (λ x. w x * excess x) in
      let r3 = total_le 0 n (λ x. w y * excess x) (λ x. w x * excess x) (λ x. lighter (S x) (w y) (w x) (m x - a x) (light x)) in
      let r4 = total_times 0 n (w y) excess in
      omega (arith, l1, l2, l3, r1, r2, r3, r4)

  keeps : (x : ℕ) → a x ≤ exchanged x
  keeps x = omega (arith, pick_least (S x) (a x) (m x) (dom x))

  -- what is beyond
  beyond : sum_on n S m ≡ sum_on n S a + total 0 n excess
  beyond = total_same 0 n (λ x. pick (S x) (m x) 0) (λ x. pick (S x) (a x) 0 + excess x) (λ x lo hi. case (S x) (a x) (m x) (dom x)) ∙ total_plus 0 n (λ x. pick (S x) (a x) 0) excess
    where
      case : (b : Bool) (u v : ℕ) → u ≤ v → pick b v 0 ≡ pick b u 0 + pick b (v - u) 0
      case true u v h = omega arith
      case false u v h = refl

  -- a set with the lightest place has no less than before
  no_less : (T : ℕ → Bool) → T y ≡ true → sum_on n T m ≤ sum_on n T exchanged
  no_less T h =
      let e = total 0 n excess in
      let r1 = total_same 0 n (λ x. pick (T x) (m x) 0) (λ x. pick (T x) (base x) 0 + pick (T x) (excess x) 0) (λ x lo hi. pick_plus (T x) (m x) (base x) (excess x) (sym (split (S x) (a x) (m x) (dom x)))) in
      let r2 = total_plus 0 n (λ x. pick (T x) (base x) 0) (λ x. pick (T x) (excess x) 0) in
      let r3 = total_le 0 n (λ x. pick (T x) (excess x) 0) excess (λ x. fewer (T x) (excess x)) in
      let l1 = total_same 0 n (λ x. pick (T x) (exchanged x) 0) (λ x. pick (T x) (base x) 0 + only_at y e x) (λ x lo hi. pick_plus (T x) (exchanged x) (base x) (only_at y e x) refl ∙ ap (λ z. pick (T x) (base x) 0 + z) (pick_there T y e x h)) in
      let l2 = total_plus 0 n (λ x. pick (T x) (base x) 0) (only_at y e) in
      let l3 = total_at n y e inside in
      omega (arith, r1, r2, r3, l1, l2, l3)
    where
      fewer : (b : Bool) (u : ℕ) → pick b u 0 ≤ u
      fewer true u = omega arith
      fewer false u = omega arith

  -- and so has one that is apart
  apart : (T : ℕ → Bool) → ((x : ℕ) → T x ≡ true → S x ≡ false) → sum_on n T m ≤ sum_on n T exchanged
  apart T h = total_le 0 n (λ x. pick (T x) (m x) 0) (λ x. pick (T x) (exchanged x) 0) (λ x.
      test (T x)
      (λ e. let f = h x e in rw (e, f) (omega arith))
      (λ e. rw e (omega arith)))

  at_least : (T : ℕ → Bool) → sum_on n T a ≤ sum_on n T exchanged
  at_least T = total_le 0 n (λ x. pick (T x) (a x) 0) (λ x. pick (T x) (exchanged x) 0) (λ x. pick_le (T x) (a x) (exchanged x) (keeps x))

-- Items, each with its places and its minimum; counts that weigh at most W and meet all of them stay above what is filled in.
module _ (n : ℕ) (w : Count) (W : ℕ) (J : Type 0) (T : J → ℕ → Bool) (minimum : J → ℕ) where
  pub record Dominated (a : Count) : Type 0 where
    pub counts : Count
    pub above : (x : ℕ) → a x ≤ counts x
    pub weighs : total 0 n (λ x. w x * counts x) ≤ W
    pub meets : (j : J) → minimum j ≤ sum_on n (T j) counts

  abbrev pub filled : J → ℕ → Count → Count
  filled i y a x = pick (eqb x y) (a x + (minimum i - sum_on n (T i) a)) (a x)

  -- an item's places that another's touch: the lightest is among them, or the other is met already
  pub fill_step : (i : J) (y : ℕ) (a : Count) → y < n → ((x : ℕ) → T i x ≡ true → w y ≤ w x) → ((j : J) → (T j y ≡ true) ⊎ (((x : ℕ) → T j x ≡ true → T i x ≡ false) ⊎ (minimum j ≤ sum_on n (T j) a))) → Dominated a → Dominated (filled i y a)
  fill_step i y a inside light kinds d =
      record {
        counts = exchanged n w (T i) y inside light a d.counts d.above;
        above = λ x. high x;
        weighs = let z = weighs_no_more n w (T i) y inside light a d.counts d.above in omega (arith, z, d.weighs);
        meets = λ j. ⊎_elim (λ h. let z = no_less n w (T i) y inside light a d.counts d.above (T j) h in omega (arith, z, d.meets j))
            (⊎_elim (λ h. let z = apart n w (T i) y inside light a d.counts d.above (T j) h in omega (arith, z, d.meets j))
            (λ h. let z = at_least n w (T i) y inside light a d.counts d.above (T j) in omega (arith, z, h))) (kinds j);
      }
    where
      high : (x : ℕ) → filled i y a x ≤ exchanged n w (T i) y inside light a d.counts d.above x
      high x =
          let k = keeps n w (T i) y inside light a d.counts d.above x in
          let b = beyond n w (T i) y inside light a d.counts d.above in
          let g = pick_least (T i x) (a x) (d.counts x) (d.above x) in
          test (eqb x y) (λ q. rw q (omega (arith, g, b, d.meets i))) (λ q. rw q (omega (arith, g)))
