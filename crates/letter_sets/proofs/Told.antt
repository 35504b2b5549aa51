-- What the code finds at each place: of a letter's digits, and of a value's arguments.
use Prim.Native.Nat.{ℕ, ◌+◌, ◌*◌, ◌≤◌, ◌<◌}
use native.Mathlib.Nat.{mul-le-mul}
use native.Mathlib.Omega.{arith}
use mathlib.Core.Path.{◌≡◌, sym, ◌∙◌, ap}
use mathlib.Core.Bool.{Bool, true, false, not, ◌&&◌}
use mathlib.Core.List.{List}
use lib.ListN.{length}
use lib.Dec.{eqb}
use borrow.Author.Tests.{eq-eqb, ne_eqb, not-true, not-false}
use Rattle.bits.specs.Bits.{member, Row, Put}
use Rattle.model.specs.declared.Sizes.{Sizes}
use Rattle.model.specs.Index.{all}
use Rattle.model.specs.Rows.{Program, program, num}
use Rattle.model.specs.Letters.{row_head_of}
use Rattle.model.specs.Closed.{argument}
use Rattle.model.proofs.Index.{all_end, all_hit, all_miss}
use Rattle.value_letters.specs.Letters.{HeadsKnown, value_arity_of}
use Rattle.value_letters.proofs.Values.{value_arguments, argument_row}
use Rattle.letter_sets.specs.Sets.{ValueTold, digit_of, code_allowed, PutAll, is_digit, in_digits, DigitRows}
use Rattle.letter_sets.proofs.Putting.{put_one, PutUpto, upto_next}
use Rattle.letter_sets.proofs.Digits.{digit_small}

-- a letter's digits
pub set_most : (i heads : ℕ) → i < 9 → heads ≤ 66 → i * heads ≤ 528
set_most i heads l few = mul-le-mul {n₁ = i} {m₁ = heads} {n₂ = 8} {m₂ = 66} (omega arith) few

pub digit_most : (code i d : ℕ) → d ≡ digit_of code i → d < 128
digit_most code i d e = omega (arith, digit_small code i)

module _ (heads w code y : ℕ) where
  pub digit_row : (i d : ℕ) (u t : List ℕ) → DigitRows heads w code y u → length t ≡ length u → i < 9 → d ≡ digit_of code i → (y < 64 * w) × Row t w (i * heads + d)
  digit_row i d u t r same l e = (r.low, record { room = rw e (rw same (r.row i l).room) })

  pub digit_put : (i d : ℕ) (u t t' : List ℕ) → PutUpto w (is_digit heads code y) 0 i u t → d ≡ digit_of code i → Put w (i * heads + d) y t t' → PutUpto w (is_digit heads code y) 0 (i + 1) u t'
  unfolding is_digit
  digit_put i d u t t' a e put =
      upto_next w (is_digit heads code y) 0 i u t t' (omega arith) a
      (put_one w (i * heads + d) y (is_digit heads code y i) t t' (λ m x. ap (λ k. eqb m (i * heads + k) && eqb x y) (sym e)) put)

  pub digits_over : (i : ℕ) (u t : List ℕ) → PutUpto w (is_digit heads code y) 0 i u t → i ≡ 9 → PutAll w (in_digits heads code y) u t
  unfolding in_digits
  digits_over i u t a e = rw e at a

-- does a value allow a letter?
abbrev pub has_head : Program → List ℕ → ℕ → ℕ → ℕ → Bool
has_head p names v code i = member names 2 (argument p v i) (digit_of code (i + 1))

-- what is left to be seen from argument i on
abbrev pub Left : Program → List ℕ → ℕ → ℕ → ℕ → ℕ → Type 0
Left p names v count code i = code_allowed p names v code ≡ all i count (has_head p names v code)

module _ (p : Program) (names : List ℕ) (v head count code : ℕ) (k : ValueTold p v head count) where
  pub allows_unlike : (d : ℕ) → d ≡ digit_of code 0 → (d ≡ head → ⊥) → false ≡ code_allowed p names v code
  unfolding code_allowed
  allows_unlike d e z = sym (ap (λ b. b && all 0 (value_arity_of p v) (has_head p names v code)) (ne_eqb (digit_of code 0) (row_head_of p v) (λ y. z (e ∙ (y ∙ sym k.head_is)))))

  pub allows_start : (d : ℕ) → d ≡ digit_of code 0 → d ≡ head → Left p names v count code 0
  unfolding code_allowed
  allows_start d e z =
      ap (λ b. b && all 0 (value_arity_of p v) (has_head p names v code)) (eq-eqb (digit_of code 0) (row_head_of p v) (sym e ∙ (z ∙ k.head_is))) ∙
      ap (λ n. all 0 n (has_head p names v code)) (sym k.count_is)

  module _ (i n x : ℕ) (b : Bool) (left : Left p names v count code i) (l : i < count) (en : n ≡ num p (v + 2 + i)) (ex : x ≡ digit_of code (i + 1)) (eb : b ≡ member names 2 n x) where
    found : b ≡ has_head p names v code i
    unfolding argument
    found = eb ∙ (ap (λ k. member names 2 k x) en ∙ ap (member names 2 (num p (v + 2 + i))) ex)

    pub allows_miss : not b ≡ true → false ≡ code_allowed p names v code
    allows_miss z = sym (left ∙ all_miss i count (has_head p names v code) l (sym found ∙ not-true b z))

    pub allows_next : not b ≡ false → Left p names v count code (i + 1)
    allows_next z = left ∙ all_hit i count (has_head p names v code) l (sym found ∙ not-false b z)

  pub allows_end : (i : ℕ) → Left p names v count code i → count ≤ i → true ≡ code_allowed p names v code
  allows_end i left l = sym (left ∙ all_end i count (has_head p names v code) l)

-- an argument of a value: its number is low, and its name has a set
module _ {ws : List ℕ} {s : Sizes} {names : List ℕ} (g : HeadsKnown ws s names) {v head count : ℕ} (k : ValueTold (program ws s) v head count) (i : ℕ) (l : i < count) where
  pub argument_low : i < 8
  argument_low = omega (arith, (value_arguments g.ready v count k.count_is).few)

  pub head_room : (n x code : ℕ) → n ≡ num (program ws s) (v + 2 + i) → x ≡ digit_of code (i + 1) → (x < 64 * 2) × Row names 2 n
  head_room n x code en ex = (omega (arith, digit_small code (i + 1)), argument_row g (value_arguments g.ready v count k.count_is) i n en l)
