-- Numbers that rise, told by index: those that are all among others are no more, and those with the same members are the same.
use Prim.Native.Nat.{ℕ, zero, suc, ◌+◌, ◌-◌, ◌≤◌, ◌<◌}
use native.Mathlib.Decide.{dec_lt}
use native.Mathlib.Omega.{arith}
use mathlib.Core.Path.{◌≡◌, sym, ◌∙◌, ap}

-- f rises from a up to b
abbrev pub Rises : ℕ → ℕ → (ℕ → ℕ) → Type 0
Rises a b f = (i j : ℕ) → a ≤ i → i < j → j < b → f i < f j

-- each f k, from a up to b, is a g j, from a up to e
abbrev pub Among : ℕ → ℕ → (ℕ → ℕ) → ℕ → (ℕ → ℕ) → Type 0
Among a b f e g = (k : ℕ) → a ≤ k → k < b → (j : ℕ) × ((a ≤ j) × ((j < e) × (g j ≡ f k)))

module _ (a b e : ℕ) (f g : ℕ → ℕ) (rf : Rises a b f) (rg : Rises a e g) (among : Among a b f e g) where
  -- not before its own index
  not_before : (d j : ℕ) → a + d < b → a ≤ j → j < e → g j ≡ f (a + d) → a + d ≤ j
  not_before zero j l lo hi same = omega arith
  not_before (suc d) j l lo hi same =
      let (i, (x, (y, z))) = among (a + d) (omega arith) (omega arith) in
      let r = not_before d i (omega arith) x y z in
      let less = rf (a + d) (a + suc d) (omega arith) (omega arith) l in
      elim (dec_lt i j) [
        | yes w ↦ omega arith
        | no w ↦ elim (dec_lt j i) [
          | yes u ↦ absurd (omega (arith, rg j i lo u y))
          | no u ↦ let q : j ≡ i = omega arith in let v = ap g q in absurd (omega arith)
        ]
      ]

  reach : (k : ℕ) → a ≤ k → k < b → (j : ℕ) × ((k ≤ j) × ((j < e) × (g j ≡ f k)))
  reach k lo hi =
      let (j, (x, (y, z))) = among k lo hi in
      let q : a + (k - a) ≡ k = omega arith in
      let r = not_before (k - a) j (omega arith) x y (z ∙ ap f (sym q)) in
      (j, (omega arith, (y, z)))

  pub no_more : a ≤ e → b ≤ e
  no_more l = elim (dec_lt a b) [
    | yes z ↦ let (j, (x, (y, w))) = reach (b - 1) (omega arith) (omega arith) in omega arith
    | no z ↦ omega arith
  ]

  pub not_below : (k : ℕ) → a ≤ k → k < b → g k ≤ f k
  not_below k lo hi =
      let (j, (x, (y, z))) = reach k lo hi in
      elim (dec_lt k j) [
        | yes w ↦ omega (arith, rg k j lo w y)
        | no w ↦ let q : k ≡ j = omega arith in let v = ap g q in omega arith
      ]
