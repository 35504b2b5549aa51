-- The letters that pass, found one after the other: they stand together.
use Prim.Native.Nat.{ℕ, ◌+◌, ◌≤◌, ◌<◌}
use native.Mathlib.Decide.{ℕ_discrete, dec_lt}
use native.Mathlib.Omega.{arith}
use mathlib.Core.Path.{◌≡◌, sym, ◌∙◌, ap}
use mathlib.Core.Bool.{Bool, true, false, ◌&&◌}
use lib.Dec.{leb, ltb}
use borrow.Author.Tests.{le-leb, lt-leb, lt-ltb, le-ltb}
use Rattle.system_items.specs.Stretches.{Stretched}

-- inside the stretch, before it and behind it
in_stretch : (from to y : ℕ) → from ≤ y → y < to → (leb from y && ltb y to) ≡ true
in_stretch from to y a b = rw (le-leb from y a, lt-ltb y to b)

before_stretch : (from to y : ℕ) → y < from → (leb from y && ltb y to) ≡ false
before_stretch from to y a = rw (lt-leb from y a)

behind_stretch : (from to y : ℕ) → to ≤ y → (leb from y && ltb y to) ≡ false
behind_stretch from to y a = elim (dec_lt y from) [
  | yes b ↦ before_stretch from to y b
  | no b ↦ rw (le-leb from y (omega arith), le-ltb y to a)
]

module _ (f : ℕ → Bool) (low : ℕ) where
  pub none_yet : Stretched f low low 0 0
  none_yet = record { order = omega arith; upto = omega arith; some = λ l. absurd (omega arith); each = λ y a b. absurd (omega arith) }

  module _ (y from to : ℕ) (g : Stretched f low y from to) where
    pub passes_not : f y ≡ false → (a b : ℕ) → a ≡ from → b ≡ to → Stretched f low (y + 1) a b
    passes_not z a b u v = rw (u, v) fewer
      where
        fewer : Stretched f low (y + 1) from to
        fewer = record {
          order = g.order;
          upto = omega (arith, g.upto);
          some = g.some;
          each = λ x a b. elim (ℕ_discrete x y) [
            | yes e ↦ ap f e ∙ (z ∙ sym (behind_stretch from to x (omega (arith, g.upto))))
            | no e ↦ g.each x a (omega arith)
          ];
        }

    pub passes_first : f y ≡ true → low ≤ y → from ≡ to → (a b : ℕ) → a ≡ y → b ≡ y + 1 → Stretched f low (y + 1) a b
    passes_first z lo none a b u v = rw (u, v) one
      where
        outside : (x : ℕ) → (leb from x && ltb x to) ≡ false
        outside x = elim (dec_lt x from) [
          | yes l ↦ before_stretch from to x l
          | no l ↦ behind_stretch from to x (omega arith)
        ]

        one : Stretched f low (y + 1) y (y + 1)
        one = record {
          order = omega arith;
          upto = omega arith;
          some = λ l. lo;
          each = λ x a b. elim (ℕ_discrete x y) [
            | yes e ↦ ap f e ∙ (z ∙ sym (in_stretch y (y + 1) x (omega arith) (omega arith)))
            | no e ↦ g.each x a (omega arith) ∙ (outside x ∙ sym (before_stretch y (y + 1) x (omega arith)))
          ];
        }

    module _ (z : f y ≡ true) (lo : low ≤ y) (more : from ≡ to → ⊥) (together : (i j : ℕ) → low ≤ i → i < j → j < y → f i ≡ true → f j ≡ true) where
      begun : (from < to) × (low ≤ from) × (f from ≡ true)
      begun =
          let l : from < to = omega (arith, g.order) in
          let b = g.some l in
          (l, b, g.each from b (omega (arith, g.upto)) ∙ in_stretch from to from (omega arith) l)

      longer : Stretched f low (y + 1) from (y + 1)
      longer =
          let (l, b, first) = begun in
          record {
            order = omega (arith, g.upto);
            upto = omega arith;
            some = λ u. b;
            each = λ x a u. elim (dec_lt x from) [
              | yes v ↦ g.each x a (omega (arith, g.upto)) ∙ (before_stretch from to x v ∙ sym (before_stretch from (y + 1) x v))
              | no v ↦ passing x a u (omega arith) first ∙ sym (in_stretch from (y + 1) x (omega arith) u)
            ];
          }
        where
          passing : (x : ℕ) → low ≤ x → x < y + 1 → from ≤ x → f from ≡ true → f x ≡ true
          passing x a u v first = elim (ℕ_discrete x y) [
            | yes e ↦ ap f e ∙ z
            | no e ↦ elim (ℕ_discrete x from) [
              | yes d ↦ ap f d ∙ first
              | no d ↦ together from x begun.1 (omega arith) (omega arith) first
            ]
          ]

      pub passes_more : (a b : ℕ) → a ≡ from → b ≡ y + 1 → Stretched f low (y + 1) a b
      passes_more a b u v = rw (u, v) longer
