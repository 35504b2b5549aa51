-- The digits of a letter's number are the letter's own numbers.
use Prim.Native.Nat.{ℕ, zero, suc, ◌+◌, ◌-◌, ◌*◌, ◌/◌, ◌%◌, ◌^◌, ◌≤◌, ◌<◌}
use native.Mathlib.Nat.{pow-suc, zero-div, one-le-pow, mul-add-div_right, mul-add-mod_self_right, div-eq_of_lt, mod-eq_of_lt, mod-lt, mul-le-mul_right, mul_assoc}
use native.Mathlib.Omega.{arith}
use mathlib.Core.Path.{◌≡◌, refl, sym, ◌∙◌, ap}
use mathlib.Core.List.{List, [], ◌∷◌}
use lib.ListN.{get_or}
use lib.Pow.{pow-add}
use Rattle.value_letters.specs.Letters.{digits_code, letter_code}
use Rattle.letter_sets.specs.Sets.{digit_of}

-- seven bits are one digit
seven_bits : (k : ℕ) → 2 ^ (7 * k) ≡ 128 ^ k
seven_bits zero = refl
seven_bits (suc k) =
    let z : 7 * suc k ≡ 7 * k + 7 = omega arith in
    rw z (pow-add 2 (7 * k) 7 ∙ (ap (λ n. n * 128) (seven_bits k) ∙ sym (pow-suc 128 k)))

pub digit_told : (code i : ℕ) → code / 2 ^ (7 * (8 - i)) % 128 ≡ digit_of code i
unfolding digit_of
digit_told code i = ap (λ n. code / n % 128) (seven_bits (8 - i))

pub digit_small : (code i : ℕ) → digit_of code i < 128
unfolding digit_of
digit_small code i = mod-lt (code / 128 ^ (8 - i)) (omega arith)

power_above : (k : ℕ) → 0 < 128 ^ k
power_above k = omega (arith, one-le-pow k 128 (omega arith))

-- each number of the list is a digit
abbrev pub Small : List ℕ → Type 0
Small l = (i : ℕ) → get_or l i 0 < 128

code_low : (n : ℕ) (l : List ℕ) → Small l → digits_code n l < 128 ^ n
unfolding digits_code
code_low zero l h = power_above zero
code_low (suc n) [] h = power_above (suc n)
code_low (suc n) (x ∷ l) h =
    let r = code_low n l (λ i. h (suc i)) in
    let most : x ≤ 127 = omega (arith, h 0) in
    let z : x * 128 ^ n ≤ 127 * 128 ^ n = mul-le-mul_right (128 ^ n) most in
    rw (pow-suc 128 n) (omega arith)

nth_digit : (n i : ℕ) (l : List ℕ) → Small l → i < n → digits_code n l / 128 ^ (n - 1 - i) % 128 ≡ get_or l i 0
unfolding digits_code
nth_digit zero i l h b = absurd (omega arith)
nth_digit (suc n) i [] h b = ap (λ k. k % 128) (zero-div (128 ^ (suc n - 1 - i)))
nth_digit (suc n) zero (x ∷ l) h b =
    let z : suc n - 1 - 0 ≡ n = omega arith in
    let top = mul-add-div_right (power_above n) x (digits_code n l) in
    let none = div-eq_of_lt (code_low n l (λ i. h (suc i))) in
    let e : (x * 128 ^ n + digits_code n l) / 128 ^ n ≡ x = omega arith in
    rw (z, e) (mod-eq_of_lt (h 0))
nth_digit (suc n) (suc i) (x ∷ l) h b =
    let m : ℕ = n - 1 - i in
    let z : suc n - 1 - suc i ≡ n - 1 - i = omega arith in
    let y : n ≡ i + 1 + (n - 1 - i) = omega arith in
    let e : x * 128 ^ n ≡ x * 128 ^ i * 128 * 128 ^ m =
    ap (λ k. x * 128 ^ k) y ∙ (ap (λ k. x * k) (pow-add 128 (i + 1) m ∙ ap (λ k. k * 128 ^ m) (pow-add 128 i 1)) ∙ regroup x (128 ^ i) (128 ^ m)) in
    let d = mul-add-div_right (power_above m) (x * 128 ^ i * 128) (digits_code n l) in
    rw (z, e, d) (mul-add-mod_self_right (x * 128 ^ i) 128 (digits_code n l / 128 ^ m) ∙ nth_digit n i l (λ k. h (suc k)) (omega arith))
  where
    regroup : (a b c : ℕ) → a * (b * 128 * c) ≡ a * b * 128 * c
    regroup a b c = sym (mul_assoc a (b * 128) c) ∙ ap (λ k. k * c) (sym (mul_assoc a b 128))

pub letter_digit : (l : List ℕ) (i : ℕ) → Small l → i ≤ 8 → digit_of (letter_code l) i ≡ get_or l i 0
unfolding digit_of letter_code
letter_digit l i h b = nth_digit 9 i l h (omega arith)
