-- Values put into sets, one after the other.
use Prim.Native.Nat.{ℕ, ◌+◌, ◌≤◌}
use native.Mathlib.Omega.{arith}
use mathlib.Core.Path.{◌≡◌, refl, sym, ◌∙◌, ap}
use mathlib.Core.Bool.{Bool, false, ◌&&◌, ◌||◌}
use mathlib.Core.List.{List}
use lib.Dec.{eqb}
use Rattle.bits.specs.Bits.{member, Put}
use Rattle.bits.proofs.Loops.{any_split}
use Rattle.model.specs.Index.{any}
use Rattle.model.proofs.Logic.{test, or_none, or_joined}
use Rattle.model.proofs.Index.{any_end, any_hit, any_miss}
use Rattle.letter_sets.specs.Sets.{PutAll}

module _ (w : ℕ) where
  -- nothing is put
  pub put_none : (f : ℕ → ℕ → Bool) (u : List ℕ) → ((n v : ℕ) → f n v ≡ false) → PutAll w f u u
  put_none f u h = record { long = refl; members = λ n v b. sym (ap (λ x. member u w n v || x) (h n v) ∙ or_none (member u w n v)) }

  -- one value is put
  pub put_one : (n v : ℕ) (f : ℕ → ℕ → Bool) (u t : List ℕ) → ((m x : ℕ) → f m x ≡ (eqb m n && eqb x v)) → Put w n v u t → PutAll w f u t
  put_one n v f u t h put = record { long = put.long; members = λ m x b. put.members m x b ∙ ap (λ y. member u w m x || y) (sym (h m x)) }

  any_last : (a i : ℕ) (f : ℕ → Bool) → a ≤ i → any a (i + 1) f ≡ (any a i f || f i)
  any_last a i f h =
      any_split a i (i + 1) f h (omega arith) ∙
      ap (λ x. any a i f || x)
      (test (f i) (λ e. any_hit i (i + 1) f (omega arith) e ∙ sym e) (λ e. any_miss i (i + 1) f (omega arith) e ∙ (any_end (i + 1) (i + 1) f (omega arith) ∙ sym e)))

  -- what a loop from a on has put before turn i
  module _ (g : ℕ → ℕ → ℕ → Bool) (a : ℕ) where
    abbrev pub PutUpto : ℕ → List ℕ → List ℕ → Type 0
    PutUpto i u t = PutAll w (λ n v. any a i (λ k. g k n v)) u t

    pub upto_start : (u : List ℕ) → PutUpto a u u
    upto_start u = put_none (λ n v. any a a (λ k. g k n v)) u (λ n v. any_end a a (λ k. g k n v) (omega arith))

    pub upto_next : (i : ℕ) (u t t' : List ℕ) → a ≤ i → PutUpto i u t → PutAll w (g i) t t' → PutUpto (i + 1) u t'
    upto_next i u t t' l x y = record {
      long = y.long ∙ x.long;
      members = λ n v b.
          y.members n v b ∙ (ap (λ z. z || g i n v) (x.members n v b) ∙
          (sym (or_joined (member u w n v) (any a i (λ k. g k n v)) (g i n v)) ∙ ap (λ z. member u w n v || z) (sym (any_last a i (λ k. g k n v) l))));
    }
