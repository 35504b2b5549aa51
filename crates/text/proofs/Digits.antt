-- Digits from the last to the first, and how many there are.
use Prim.Native.Nat.{ℕ, zero, suc, ◌+◌, ◌-◌, ◌*◌, ◌/◌, ◌%◌, ◌≤◌, ◌<◌, ◌^◌, max}
use native.Mathlib.Nat.{pow-suc}
use native.Mathlib.Omega.{arith}
use native.Mathlib.Numerals.{add-one}
use mathlib.Core.Path.{◌≡◌, refl, sym, ◌∙◌, ap}
use mathlib.Core.Bool.{Bool, true, false}
use mathlib.Core.List.{List, [], ◌∷◌, ◌++◌, append_assoc, append-nil}
use lib.ListN.{length, set, length-append}
use lib.Dec.{ltb}
use borrow.Author.Tests.{lt-ltb, le-ltb}
use Rattle.text.specs.Text.{put_at, digit, digits, width_in, width, decimal, pair, line_end, line}
use Rattle.text.proofs.Putting.{put_before}

-- a digit
pub digit_low : (d : ℕ) → d < 10 → 48 + d ≡ digit d
unfolding digit
digit_low d h = rw (lt-ltb d 10 h, digit)

pub digit_high : (d : ℕ) → 10 ≤ d → 87 + d ≡ digit d
unfolding digit
digit_high d h = rw (le-ltb d 10 h, digit)

pub length_digits : (b k n : ℕ) → length (digits b k n) ≡ k
unfolding digits
length_digits b zero n = refl
length_digits b (suc k) n =
    let z = length-append (digits b k (n / b)) (digit (n % b) ∷ []) in
    let y = length_digits b k (n / b) in
    omega arith

-- i digits of `rest` are to come before those that are put; together they are the k digits of n
pub record Spelled (b k n at i rest : ℕ) (out₀ out : List ℕ) : Type 0 where
  pub done : List ℕ
  pub together : digits b i rest ++ done ≡ digits b k n
  pub put : out ≡ put_at (at + i) done out₀

pub spelled_none : (b k n at : ℕ) (out : List ℕ) → Spelled b k n at k n out out
unfolding put_at
spelled_none b k n at out = record { done = []; together = append-nil (digits b k n); put = refl }

one_digit : (b i rest : ℕ) (done : List ℕ) → digits b (i + 1) rest ++ done ≡ digits b i (rest / b) ++ (digit (rest % b) ∷ done)
unfolding digits
one_digit b i rest done = rw (add-one i) (append_assoc (digits b i (rest / b)) (digit (rest % b) ∷ []) done)

-- one digit more
pub spelled_more : (b k n at i rest d : ℕ) (out₀ out : List ℕ) → Spelled b k n at i rest out₀ out → 0 < i → d ≡ digit (rest % b) → Spelled b k n at (i - 1) (rest / b) out₀ (set out (at + (i - 1)) d)
spelled_more b k n at i rest d out₀ out s h e =
    let same : i - 1 + 1 ≡ i = omega arith in
    record {
      done = d ∷ s.done;
      together = rw e (sym (one_digit b (i - 1) rest s.done) ∙ (rw same s.together));
      put = put_before (at + (i - 1)) (at + i) d s.done out₀ out s.put (omega arith);
    }

-- all of them
pub spelled_all : (b k n at i rest : ℕ) (out₀ out : List ℕ) → Spelled b k n at i rest out₀ out → i ≡ 0 → out ≡ put_at at (digits b k n) out₀
unfolding digits
spelled_all b k n at i rest out₀ out s e =
    let t : s.done ≡ digits b k n = rw e at s.together in
    let z : at + i ≡ at = omega arith in
    s.put ∙ (ap (λ j. put_at j s.done out₀) z ∙ ap (λ l. put_at at l out₀) t)

-- a power of ten has one digit more than its exponent says, and so has what lies between it and the next
ten_positive : (k : ℕ) → 0 < 10 ^ k
ten_positive zero = omega arith
ten_positive (suc k) = let h = ten_positive k in omega (arith, pow-suc 10 k)

width_between : (m k n : ℕ) → k ≤ m → 10 ^ k ≤ n → n < 10 * 10 ^ k → width_in m n ≡ k + 1
unfolding width_in
width_between zero zero n l b a = refl
width_between zero (suc k) n l b a = absurd (omega arith)
width_between (suc m) zero n l b a = rw (lt-ltb n 10 (omega arith), width_in)
width_between (suc m) (suc k) n l b a =
    let p = pow-suc 10 k in
    let o = ten_positive k in
    let z = width_between m k (n / 10) (omega arith) (omega arith) (omega arith) in
    rw (le-ltb n 10 (omega arith), width_in) (omega arith)

-- 0 has as many digits as 1
pub width_logged : (n x k : ℕ) → x ≡ max n 1 → 10 ^ k ≤ x → x < 10 * 10 ^ k → k < 20 → k + 1 ≡ width n
unfolding width width_in
width_logged zero x k e b a l =
    let z = width_between 19 k x (omega arith) b a in
    let y : x ≡ 1 = omega arith in
    sym (rw y at z)
width_logged (suc n) x k e b a l =
    let z = width_between 19 k x (omega arith) b a in
    let y : x ≡ suc n = omega arith in
    sym (rw y at z)

-- 20 at the most
pick : {A : Type 0} (b : Bool) → (b ≡ true → A) → (b ≡ false → A) → A
pick true f g = f refl
pick false f g = g refl

width_in_most : (m n : ℕ) → width_in m n ≤ m + 1
unfolding width_in
width_in_most zero n = omega arith
width_in_most (suc m) n = pick (ltb n 10) (λ e. rw (e, width_in) (omega arith)) (λ e. let z = width_in_most m (n / 10) in rw (e, width_in) (omega arith))

pub width_most : (n : ℕ) → width n ≤ 20
unfolding width
width_most n = width_in_most 19 n

pub length_decimal : (n : ℕ) → length (decimal n) ≡ width n
unfolding decimal
length_decimal n = length_digits 10 (width n) n

pub decimal_most : (n : ℕ) → length (decimal n) ≤ 20
decimal_most n = let z = length_decimal n in omega (arith, width_most n)

-- two numbers
pub pair_most : (a b : ℕ) → length (pair a b) ≤ 41
unfolding pair
pair_most a b =
    let z = length-append (decimal a) (32 ∷ decimal b) in
    let x = decimal_most a in
    let y = decimal_most b in
    omega arith

-- a number, by the code's values
pub decimal_put : (at k end n : ℕ) (out₀ out : List ℕ) → k ≡ width n → (out ≡ put_at at (digits 10 k n) out₀) × (end ≡ at + k) → (out ≡ put_at at (decimal n) out₀) × (end ≡ at + length (decimal n))
unfolding decimal
decimal_put at k end n out₀ out e h = (h.0 ∙ ap (λ j. put_at at (digits 10 j n) out₀) e, (let z = length_decimal n in let y = h.1 in omega arith))

-- a line of two numbers
pub line_most : (a b : ℕ) → length (line a b) ≤ 42
unfolding line line_end
line_most a b = let z = length-append (pair a b) (10 ∷ []) in let y = pair_most a b in omega arith
