-- What a rule puts and takes by its kind, and the change as a signed number.
use Prim.Native.Nat.{ℕ, zero, suc, ◌+◌, ◌^◌, ◌-◌, ◌≤◌, ◌<◌}
use native.Mathlib.Omega.{arith}
use mathlib.Core.Path.{◌≡◌, refl, sym, ap, ap₂}
use mathlib.Core.Bool.{Bool, true, false}
use mathlib.Core.List.{List}
use lib.Dec.{ltb, leb, eqb}
use lib.IntN.{ℤ, pos, negsuc, sub_ℕ, ◌-ℤ◌}
use lib.Signed.{mag, lt_z}
use mir.Syntax.{w32}
use mir.Val.{SFits, to_z, of_z}
use mir.Facts.{to_z-of_z}
use borrow.Author.Tests.{lt-ltb, le-ltb, ltb-true, ltb-false, leb-true, leb-false, eqb-true, eqb-false}
use Rattle.model.specs.Weights.{Line, effect_put, effect_took, weight_put_of, weight_taken_of, above_zero}
use Rattle.model.proofs.Logic.{test}
use Rattle.steps.specs.declared.Step.{Step}
use Rattle.steps.specs.Steps.{effect_of, rule_of_step}
use Rattle.ceilings.specs.Table.{held}
use Rattle.weights_change.specs.Changes.{weight_of, weight_with_of}

-- the weight of a counter
pub weight_below : (weights : List ℕ) (lines n k x : ℕ) → x < n → held weights lines k x ≡ weight_of weights lines n k x
unfolding weight_of
weight_below weights lines n k x h = rw (lt-ltb x n h, weight_of)

pub weight_past : (weights : List ℕ) (lines n k x : ℕ) → n ≤ x → 0 ≡ weight_of weights lines n k x
unfolding weight_of
weight_past weights lines n k x h = rw (le-ltb x n h, weight_of)

-- an effect by its kind
put_none : (w : Line) (kind x : ℕ) → kind < 2 → effect_put w (effect_of kind x) ≡ 0
unfolding effect_put effect_of
put_none w zero x h = refl
put_none w (suc zero) x h = refl
put_none w (suc (suc kind)) x h = absurd (omega arith)

put_other : (w : Line) (kind x : ℕ) → 2 ≤ kind → kind ≤ 3 → effect_put w (effect_of kind x) ≡ w x
unfolding effect_put effect_of
put_other w zero x h l = absurd (omega arith)
put_other w (suc zero) x h l = absurd (omega arith)
put_other w (suc (suc zero)) x h l = refl
put_other w (suc (suc (suc zero))) x h l = refl
put_other w (suc (suc (suc (suc kind)))) x h l = absurd (omega arith)

took_none : (w : Line) (kind x : ℕ) → (kind ≡ 1 → ⊥) → kind ≤ 3 → effect_took w (effect_of kind x) ≡ 0
unfolding effect_took effect_of
took_none w zero x h l = refl
took_none w (suc zero) x h l = absurd (h refl)
took_none w (suc (suc zero)) x h l = refl
took_none w (suc (suc (suc zero))) x h l = refl
took_none w (suc (suc (suc (suc kind)))) x h l = absurd (omega arith)

took_other : (w : Line) (kind x : ℕ) → kind ≡ 1 → effect_took w (effect_of kind x) ≡ w x
unfolding effect_took effect_of
took_other w kind x h = rw h

-- the weight of one counter or of two
module _ (w : Line) (x y a : ℕ) (one : a ≡ w x) where
  pub with_none : (b : Bool) → b ≡ false → a ≡ weight_with_of w x b y
  unfolding weight_with_of
  with_none b f = rw f one

  pub with_both : (b : Bool) (o : ℕ) → b ≡ true → o ≡ w y → a + o ≡ weight_with_of w x b y
  unfolding weight_with_of
  with_both b o t e = rw t (ap₂ (λ u v. u + v) one e)

module _ (w : Line) (σ : Step) (small : σ.kind ≤ 3) where
  pub puts : weight_with_of w σ.to (leb 2 σ.kind) σ.other ≡ weight_put_of w (rule_of_step σ)
  unfolding weight_put_of rule_of_step weight_with_of
  puts =
      test (leb 2 σ.kind)
      (λ t. rw t (ap (λ z. w σ.to + z) (sym (put_other w σ.kind σ.other (leb-true _ _ t) small))))
      (λ f. let low = leb-false 2 σ.kind f in rw f (omega (arith, put_none w σ.kind σ.other low)))

  pub takes : weight_with_of w σ.from (eqb σ.kind 1) σ.other ≡ weight_taken_of w (rule_of_step σ)
  unfolding weight_taken_of rule_of_step weight_with_of
  takes =
      test (eqb σ.kind 1)
      (λ t. rw t (ap (λ z. w σ.from + z) (sym (took_other w σ.kind σ.other (eqb-true _ _ t)))))
      (λ f. rw f (omega (arith, took_none w σ.kind σ.other (eqb-false _ _ f) small)))

-- Signed numbers

-- the difference of two naturals
pub minus : (a b : ℕ) → pos a -ℤ pos b ≡ sub_ℕ a b
minus a zero = let z : a + 0 ≡ a - 0 = omega arith in let f : ltb a 0 ≡ false = le-ltb a 0 (omega arith) in rw f (ap pos z)
minus a (suc b) = refl

-- ... is small where these are
pub minus_small : (a b m : ℕ) → a < m → b < m → mag (sub_ℕ a b) < m
minus_small a b m h l =
    test (ltb a b)
    (λ e. rw e (let z = ltb-true a b e in omega arith))
    (λ e. rw e (let z = ltb-false a b e in omega arith))

-- the test of a signed number against zero
pub zero_below : (z : ℤ) → lt_z (pos 0) z ≡ above_zero z
unfolding above_zero
zero_below (pos zero) = refl
zero_below (pos (suc n)) = lt-ltb 0 (suc n) (omega arith)
zero_below (negsuc n) = refl

-- two numbers below 2^31 as signed ones of 32 bits, and their difference
module _ (a b : ℕ) (h : a < 2 ^ 31) (l : b < 2 ^ 31) where
  pub difference_is : to_z w32 a -ℤ to_z w32 b ≡ sub_ℕ a b
  difference_is = rw (to_z-of_z {w = w32} {z = pos a} (record { sfits = h }), to_z-of_z {w = w32} {z = pos b} (record { sfits = l })) (minus a b)

  pub difference_fits : SFits w32 (to_z w32 a -ℤ to_z w32 b)
  difference_fits = rw difference_is (record { sfits = minus_small a b (2 ^ 31) h l })

-- a signed number that fits, read back
pub read_back : (z : ℤ) → mag z < 2 ^ 31 → to_z w32 (of_z w32 z) ≡ z
read_back z h = to_z-of_z {w = w32} {z = z} (record { sfits = h })
