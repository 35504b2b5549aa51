-- Laws of the loops of specs/Index.antt. For each: what it gives at the end and after one turn (for a loop of the code), and what it says of
-- the indices (for a proof about the model).
use Prim.Native.Nat.{ℕ, zero, suc, ◌+◌, ◌-◌, ◌*◌, ◌≤◌, ◌<◌}
use native.Mathlib.Decide.{ℕ_discrete, dec_lt}
use native.Mathlib.Nat.{mul-add, mul-zero}
use native.Mathlib.Omega.{arith}
use mathlib.Core.Path.{◌≡◌, refl, sym, ◌∙◌, ap, subst}
use mathlib.Core.Bool.{Bool, true, false}
use mathlib.Core.Logic.{◌⊎◌, inl, inr, ⊎_elim}
use mathlib.Core.List.Memᴰ
use mathlib.Core.List.{List, [], ◌∷◌, ◌++◌, Memᴰ}
use Rattle.model.specs.Index.{any_between, all_between, first_between, count_between, total_between, gather_between, any, all, first, count, total, gather, only, from_all}
use Rattle.model.proofs.Logic.{true_false, test}

-- k is an index from i below e
abbrev pub Within : ℕ → ℕ → ℕ → Type 0
Within i e k = (i ≤ k) × (k < e)

-- k is i itself, or behind it
at_or_behind : {A : Type 0} (i k : ℕ) → i ≤ k → (k ≡ i → A) → (i + 1 ≤ k → A) → A
at_or_behind i k h here behind = elim (ℕ_discrete k i) [ yes e ↦ here e | no ne ↦ behind (omega arith) ]

-- e - i is one more than what is left after a turn
-- one turn of a loop is less left
pub turn : (i e : ℕ) → i < e → e - i ≡ suc (e - (i + 1))
turn i e h = omega arith

pub turned : (i j : ℕ) → i + suc j ≡ i + 1 + j
turned i j = omega arith

over : (i e : ℕ) → e ≤ i → e - i ≡ zero
over i e h = omega arith

-- any

anyIn_pass : (n i : ℕ) (f : ℕ → Bool) → f i ≡ true → any_between (suc n) i f ≡ true
unfolding any_between
anyIn_pass n i f t = rw (t, any_between)

anyIn_fail : (n i : ℕ) (f : ℕ → Bool) → f i ≡ false → any_between (suc n) i f ≡ any_between n (i + 1) f
unfolding any_between
anyIn_fail n i f t = rw (t, any_between)

pub any_end : (i e : ℕ) (f : ℕ → Bool) → e ≤ i → any i e f ≡ false
unfolding any any_between
any_end i e f h = rw (over i e h)

pub any_hit : (i e : ℕ) (f : ℕ → Bool) → i < e → f i ≡ true → any i e f ≡ true
unfolding any
any_hit i e f h t = rw (turn i e h) (anyIn_pass (e - (i + 1)) i f t)

pub any_miss : (i e : ℕ) (f : ℕ → Bool) → i < e → f i ≡ false → any i e f ≡ any (i + 1) e f
unfolding any
any_miss i e f h t = rw (turn i e h) (anyIn_fail (e - (i + 1)) i f t)

anyIn_intro : (n i k : ℕ) (f : ℕ → Bool) → i ≤ k → k < i + n → f k ≡ true → any_between n i f ≡ true
anyIn_intro zero i k f lo hi t = absurd (omega arith)
anyIn_intro (suc n) i k f lo hi t =
    test (f i) (anyIn_pass n i f)
    (λ e. anyIn_fail n i f e ∙
    at_or_behind i k lo (λ h. true_false t (ap f h ∙ e)) (λ h. anyIn_intro n (i + 1) k f h (omega arith) t))

anyIn_elim : (n i : ℕ) (f : ℕ → Bool) → any_between n i f ≡ true → (k : ℕ) × Within i (i + n) k × (f k ≡ true)
unfolding any_between
anyIn_elim zero i f h = true_false h refl
anyIn_elim (suc n) i f h =
    test (f i) (λ e. (i, (omega arith, omega arith), e))
    (λ e. let (k, w, t) = anyIn_elim n (i + 1) f (sym (anyIn_fail n i f e) ∙ h) in (k, (omega arith, omega arith), t))

-- an index that passes
pub any_intro : (i e k : ℕ) (f : ℕ → Bool) → i ≤ k → k < e → f k ≡ true → any i e f ≡ true
unfolding any
any_intro i e k f lo hi t = anyIn_intro (e - i) i k f lo (omega arith) t

pub any_elim : (i e : ℕ) (f : ℕ → Bool) → any i e f ≡ true → (k : ℕ) × Within i e k × (f k ≡ true)
unfolding any
any_elim i e f h =
    let (k, w, t) = anyIn_elim (e - i) i f h in
    (k, (w.0, omega arith), t)

-- none does
pub any_none : (i e k : ℕ) (f : ℕ → Bool) → any i e f ≡ false → i ≤ k → k < e → f k ≡ false
any_none i e k f h lo hi = test (f k) (λ t. true_false (any_intro i e k f lo hi t) h) (λ e. e)

pub none_any : (i e : ℕ) (f : ℕ → Bool) → ((k : ℕ) → i ≤ k → k < e → f k ≡ false) → any i e f ≡ false
none_any i e f h = test (any i e f) (λ t. let (k, w, p) = any_elim i e f t in true_false p (h k w.0 w.1)) (λ z. z)

-- all

allIn_pass : (n i : ℕ) (f : ℕ → Bool) → f i ≡ true → all_between (suc n) i f ≡ all_between n (i + 1) f
unfolding all_between
allIn_pass n i f t = rw (t, all_between)

allIn_fail : (n i : ℕ) (f : ℕ → Bool) → f i ≡ false → all_between (suc n) i f ≡ false
unfolding all_between
allIn_fail n i f t = rw (t, all_between)

pub all_end : (i e : ℕ) (f : ℕ → Bool) → e ≤ i → all i e f ≡ true
unfolding all all_between
all_end i e f h = rw (over i e h)

pub all_hit : (i e : ℕ) (f : ℕ → Bool) → i < e → f i ≡ true → all i e f ≡ all (i + 1) e f
unfolding all
all_hit i e f h t = rw (turn i e h) (allIn_pass (e - (i + 1)) i f t)

pub all_miss : (i e : ℕ) (f : ℕ → Bool) → i < e → f i ≡ false → all i e f ≡ false
unfolding all
all_miss i e f h t = rw (turn i e h) (allIn_fail (e - (i + 1)) i f t)

allIn_elim : (n i k : ℕ) (f : ℕ → Bool) → all_between n i f ≡ true → i ≤ k → k < i + n → f k ≡ true
allIn_elim zero i k f h lo hi = absurd (omega arith)
allIn_elim (suc n) i k f h lo hi =
    test (f i)
    (λ e. at_or_behind i k lo (λ z. ap f z ∙ e)
    (λ z. allIn_elim n (i + 1) k f (sym (allIn_pass n i f e) ∙ h) z (omega arith)))
    (λ e. true_false h (allIn_fail n i f e))

allIn_intro : (n i : ℕ) (f : ℕ → Bool) → ((k : ℕ) → i ≤ k → k < i + n → f k ≡ true) → all_between n i f ≡ true
unfolding all_between
allIn_intro zero i f h = refl
allIn_intro (suc n) i f h =
    allIn_pass n i f (h i (omega arith) (omega arith)) ∙
    allIn_intro n (i + 1) f (λ k lo hi. h k (omega arith) (omega arith))

pub all_elim : (i e k : ℕ) (f : ℕ → Bool) → all i e f ≡ true → i ≤ k → k < e → f k ≡ true
unfolding all
all_elim i e k f h lo hi = allIn_elim (e - i) i k f h lo (omega arith)

pub all_intro : (i e : ℕ) (f : ℕ → Bool) → ((k : ℕ) → i ≤ k → k < e → f k ≡ true) → all i e f ≡ true
unfolding all
all_intro i e f h = allIn_intro (e - i) i f (λ k lo hi. h k lo (omega arith))

-- first

firstIn_pass : (n i : ℕ) (f : ℕ → Bool) → f i ≡ true → first_between (suc n) i f ≡ i
unfolding first_between
firstIn_pass n i f t = rw (t, first_between)

firstIn_fail : (n i : ℕ) (f : ℕ → Bool) → f i ≡ false → first_between (suc n) i f ≡ first_between n (i + 1) f
unfolding first_between
firstIn_fail n i f t = rw (t, first_between)

pub first_end : (i e : ℕ) (f : ℕ → Bool) → e ≤ i → first i e f ≡ i
unfolding first first_between
first_end i e f h = rw (over i e h)

pub first_hit : (i e : ℕ) (f : ℕ → Bool) → i < e → f i ≡ true → first i e f ≡ i
unfolding first
first_hit i e f h t = rw (turn i e h) (firstIn_pass (e - (i + 1)) i f t)

pub first_miss : (i e : ℕ) (f : ℕ → Bool) → i < e → f i ≡ false → first i e f ≡ first (i + 1) e f
unfolding first
first_miss i e f h t = rw (turn i e h) (firstIn_fail (e - (i + 1)) i f t)

-- what the first index is: from i up to the end, passing unless it is the end, with none before it
pub record First (i e : ℕ) (f : ℕ → Bool) (k : ℕ) : Type 0 where
  pub from : i ≤ k
  pub upto : k ≤ e
  pub passes : k < e → f k ≡ true
  pub before : (j : ℕ) → i ≤ j → j < k → f j ≡ false

firstIn_is : (n i : ℕ) (f : ℕ → Bool) → First i (i + n) f (first_between n i f)
unfolding first_between
firstIn_is zero i f =
    record { from = omega arith; upto = omega arith; passes = λ h. absurd (omega arith); before = λ j a b. absurd (omega arith) }
firstIn_is (suc n) i f =
    test (f i)
    (λ e. rw (firstIn_pass n i f e)
    (record { from = omega arith; upto = omega arith; passes = λ h. e; before = λ j a b. absurd (omega arith) }))
    (λ e. let r = firstIn_is n (i + 1) f in
    rw (firstIn_fail n i f e)
    (record {
      from = omega arith;
      upto = omega arith;
      passes = λ h. r.passes (omega arith);
      before = λ j a b. at_or_behind i j a (λ z. ap f z ∙ e) (λ z. r.before j z b);
    }))

pub first_is : (i e : ℕ) (f : ℕ → Bool) → i ≤ e → First i e f (first i e f)
unfolding first
first_is i e f h = let z : i + (e - i) ≡ e = omega arith in rw z at (firstIn_is (e - i) i f)

-- the first index is the only one that is so
pub first_unique : (i e k : ℕ) (f : ℕ → Bool) → i ≤ e → First i e f k → first i e f ≡ k
first_unique i e k f h r = elim (dec_lt (first i e f) k) [
  | yes a ↦ true_false (s.passes (omega (arith, r.upto))) (r.before (first i e f) s.from a)
  | no a ↦ elim (dec_lt k (first i e f)) [
    | yes b ↦ true_false (r.passes (omega (arith, s.upto))) (s.before k r.from b)
    | no b ↦ omega arith
  ]
]
  where
    s : First i e f (first i e f)
    s = first_is i e f h

-- there is one exactly where the first is below the end
pub first_below : (i e k : ℕ) (f : ℕ → Bool) → i ≤ k → k < e → f k ≡ true → first i e f ≤ k
first_below i e k f lo hi t = elim (dec_lt k (first i e f)) [
  | yes b ↦ true_false t ((first_is i e f (omega arith)).before k lo b)
  | no b ↦ omega arith
]

-- count

countIn_pass : (n i : ℕ) (f : ℕ → Bool) → f i ≡ true → count_between (suc n) i f ≡ 1 + count_between n (i + 1) f
unfolding count_between
countIn_pass n i f t = rw (t, count_between)

countIn_fail : (n i : ℕ) (f : ℕ → Bool) → f i ≡ false → count_between (suc n) i f ≡ count_between n (i + 1) f
unfolding count_between
countIn_fail n i f t = rw (t, count_between)

pub count_end : (i e : ℕ) (f : ℕ → Bool) → e ≤ i → count i e f ≡ 0
unfolding count count_between
count_end i e f h = rw (over i e h)

pub count_hit : (i e : ℕ) (f : ℕ → Bool) → i < e → f i ≡ true → count i e f ≡ 1 + count (i + 1) e f
unfolding count
count_hit i e f h t = rw (turn i e h) (countIn_pass (e - (i + 1)) i f t)

pub count_miss : (i e : ℕ) (f : ℕ → Bool) → i < e → f i ≡ false → count i e f ≡ count (i + 1) e f
unfolding count
count_miss i e f h t = rw (turn i e h) (countIn_fail (e - (i + 1)) i f t)

countIn_split : (n m i : ℕ) (f : ℕ → Bool) → count_between (n + m) i f ≡ count_between n i f + count_between m (i + n) f
unfolding count_between
countIn_split zero m i f = let a : zero + m ≡ m = omega arith in let b : i + zero ≡ i = omega arith in rw (a, b) (omega arith)
countIn_split (suc n) m i f =
    let a : suc n + m ≡ suc (n + m) = omega arith in
    let b : i + suc n ≡ i + 1 + n = omega arith in
    let r = countIn_split n m (i + 1) f in
    rw (a, b)
    (test (f i)
    (λ e. rw (countIn_pass (n + m) i f e, countIn_pass n i f e) (omega arith))
    (λ e. rw (countIn_fail (n + m) i f e, countIn_fail n i f e) (omega arith)))

-- up to k, and from k on
pub count_split : (i k e : ℕ) (f : ℕ → Bool) → i ≤ k → k ≤ e → count i e f ≡ count i k f + count k e f
unfolding count
count_split i k e f a b =
    let x : e - i ≡ (k - i) + (e - k) = omega arith in
    let y : i + (k - i) ≡ k = omega arith in
    rw x (rw y at (countIn_split (k - i) (e - k) i f))

-- one index more
pub count_last : (i e : ℕ) (f : ℕ → Bool) → i ≤ e → f e ≡ true → count i (e + 1) f ≡ count i e f + 1
count_last i e f h t =
    count_split i e (e + 1) f h (omega arith) ∙
    ap (λ n. count i e f + n) (count_hit e (e + 1) f (omega arith) t ∙ ap (λ n. 1 + n) (count_end (e + 1) (e + 1) f (omega arith)))

pub count_last_miss : (i e : ℕ) (f : ℕ → Bool) → i ≤ e → f e ≡ false → count i (e + 1) f ≡ count i e f
count_last_miss i e f h t =
    let z = count_end (e + 1) (e + 1) f (omega arith) in
    let s = count_split i e (e + 1) f h (omega arith) in
    let m = count_miss e (e + 1) f (omega arith) t in
    omega arith

-- an index that passes is counted before every later one
pub count_before : (k e : ℕ) (f : ℕ → Bool) → k < e → f k ≡ true → count 0 k f < count 0 e f
count_before k e f h t = omega (arith, count_split 0 k e f (omega arith) (omega arith), count_hit k e f h t)

pub count_injective : (k k' : ℕ) (f : ℕ → Bool) → f k ≡ true → f k' ≡ true → count 0 k f ≡ count 0 k' f → k ≡ k'
count_injective k k' f t t' e = elim (dec_lt k k') [
  | yes a ↦ absurd (omega (arith, count_before k k' f a t))
  | no a ↦ elim (dec_lt k' k) [
    | yes b ↦ absurd (omega (arith, count_before k' k f b t'))
    | no b ↦ omega arith
  ]
]

-- each number below the count is the count before some index that passes
pub count_reached : (e x : ℕ) (f : ℕ → Bool) → x < count 0 e f → (k : ℕ) × (k < e) × (f k ≡ true) × (count 0 k f ≡ x)
count_reached zero x f h = absurd (omega (arith, count_end 0 0 f (omega arith)))
count_reached (suc e) x f h =
    let s : suc e ≡ e + 1 = omega arith in
    let b : x < count 0 (e + 1) f = rw s at h in
    test (f e)
    (λ t. let z = count_last 0 e f (omega arith) t in elim (dec_lt x (count 0 e f)) [
      | yes a ↦ let (k, u, v, w) = count_reached e x f a in (k, omega arith, v, w)
      | no a ↦ (e, omega arith, t, omega arith)
    ])
    (λ t. let z = count_last_miss 0 e f (omega arith) t in
    let (k, u, v, w) = count_reached e x f (omega arith) in
    (k, omega arith, v, w))

-- total

totalIn_higher : (n i least : ℕ) (f g : ℕ → ℕ) → ((k : ℕ) → i ≤ k → k < i + n → (f k ≤ g k) ⊎ (least ≤ g k)) → (total_between n i f ≤ total_between n i g) ⊎ (least ≤ total_between n i g)
unfolding total_between
totalIn_higher zero i least f g h = inl (omega arith)
totalIn_higher (suc n) i least f g h =
    ⊎_elim
    (λ (a : f i ≤ g i).
    ⊎_elim (λ (b : total_between n (i + 1) f ≤ total_between n (i + 1) g). inl (omega arith)) (λ (b : least ≤ total_between n (i + 1) g). inr (omega arith))
    (totalIn_higher n (i + 1) least f g (λ k lo hi. h k (omega arith) (omega arith))))
    (λ (a : least ≤ g i). inr (omega arith)) (h i (omega arith) (omega arith))

totalIn_same : (n i : ℕ) (f g : ℕ → ℕ) → ((k : ℕ) → i ≤ k → k < i + n → f k ≡ g k) → total_between n i f ≡ total_between n i g
unfolding total_between
totalIn_same zero i f g h = refl
totalIn_same (suc n) i f g h =
    let a = h i (omega arith) (omega arith) in
    let b = totalIn_same n (i + 1) f g (λ k lo hi. h k (omega arith) (omega arith)) in
    omega arith

totalIn_zero : (n i : ℕ) → total_between n i (λ k. 0) ≡ 0
unfolding total_between
totalIn_zero zero i = refl
totalIn_zero (suc n) i = let a = totalIn_zero n (i + 1) in omega arith

totalIn_one : (n i k : ℕ) (f : ℕ → ℕ) → i ≤ k → k < i + n → ((j : ℕ) → (j ≡ k → ⊥) → f j ≡ 0) → total_between n i f ≡ f k
unfolding total_between
totalIn_one zero i k f lo hi others = absurd (omega arith)
totalIn_one (suc n) i k f lo hi others =
    at_or_behind i k lo
    (λ e. let a = totalIn_same n (i + 1) f (λ j. 0) (λ j l h. others j (λ z. omega arith)) in
    let b = totalIn_zero n (i + 1) in
    let c = ap f e in
    omega arith)
    (λ h. let a = others i (λ z. omega arith) in
    let b = totalIn_one n (i + 1) k f h (omega arith) others in
    omega arith)

totalIn_plus : (n i : ℕ) (f g : ℕ → ℕ) → total_between n i (λ k. f k + g k) ≡ total_between n i f + total_between n i g
unfolding total_between
totalIn_plus zero i f g = refl
totalIn_plus (suc n) i f g = let a = totalIn_plus n (i + 1) f g in omega arith

totalIn_swap : (n i m j : ℕ) (f : ℕ → ℕ → ℕ) → total_between n i (λ a. total_between m j (f a)) ≡ total_between m j (λ b. total_between n i (λ a. f a b))
unfolding total_between
totalIn_swap zero i m j f = sym (totalIn_zero m j)
totalIn_swap (suc n) i m j f =
    let a = totalIn_swap n (i + 1) m j f in
    let b = totalIn_plus m j (f i) (λ y. total_between n (i + 1) (λ x. f x y)) in
    omega arith

totalIn_le : (n i : ℕ) (f g : ℕ → ℕ) → ((k : ℕ) → f k ≤ g k) → total_between n i f ≤ total_between n i g
unfolding total_between
totalIn_le zero i f g h = omega arith
totalIn_le (suc n) i f g h = omega (arith, h i, totalIn_le n (i + 1) f g h)

totalIn_times : (n i c : ℕ) (f : ℕ → ℕ) → total_between n i (λ k. c * f k) ≡ c * total_between n i f
unfolding total_between
totalIn_times zero i c f = sym (mul-zero c)
totalIn_times (suc n) i c f = omega (arith, totalIn_times n (i + 1) c f, mul-add c (f i) (total_between n (i + 1) f))

pub total_end : (i e : ℕ) (f : ℕ → ℕ) → e ≤ i → total i e f ≡ 0
unfolding total total_between
total_end i e f h = rw (over i e h)

pub total_turn : (i e : ℕ) (f : ℕ → ℕ) → i < e → total i e f ≡ f i + total (i + 1) e f
unfolding total total_between
total_turn i e f h = rw (turn i e h)

-- where each term is as high, or past a number, so is the sum
pub total_higher : (i e least : ℕ) (f g : ℕ → ℕ) → ((k : ℕ) → i ≤ k → k < e → (f k ≤ g k) ⊎ (least ≤ g k)) → (total i e f ≤ total i e g) ⊎ (least ≤ total i e g)
unfolding total
total_higher i e least f g h = totalIn_higher (e - i) i least f g (λ k lo hi. h k lo (omega arith))

-- what the terms say, the sum says
pub total_same : (i e : ℕ) (f g : ℕ → ℕ) → ((k : ℕ) → i ≤ k → k < e → f k ≡ g k) → total i e f ≡ total i e g
unfolding total
total_same i e f g h = totalIn_same (e - i) i f g (λ k lo hi. h k lo (omega arith))

pub total_none : (i e : ℕ) (f : ℕ → ℕ) → ((k : ℕ) → i ≤ k → k < e → f k ≡ 0) → total i e f ≡ 0
unfolding total
total_none i e f h = total_same i e f (λ k. 0) h ∙ totalIn_zero (e - i) i

pub total_plus : (i e : ℕ) (f g : ℕ → ℕ) → total i e (λ k. f k + g k) ≡ total i e f + total i e g
unfolding total
total_plus i e f g = totalIn_plus (e - i) i f g

-- where no term is higher, the sum is not
pub total_le : (i e : ℕ) (f g : ℕ → ℕ) → ((k : ℕ) → f k ≤ g k) → total i e f ≤ total i e g
unfolding total
total_le i e f g h = totalIn_le (e - i) i f g h

-- a number of times the sum
pub total_times : (i e c : ℕ) (f : ℕ → ℕ) → total i e (λ k. c * f k) ≡ c * total i e f
unfolding total
total_times i e c f = totalIn_times (e - i) i c f

-- a sum of sums, the other way round
pub total_swap : (i e i' e' : ℕ) (f : ℕ → ℕ → ℕ) → total i e (λ a. total i' e' (f a)) ≡ total i' e' (λ b. total i e (λ a. f a b))
unfolding total
total_swap i e i' e' f = totalIn_swap (e - i) i (e' - i') i' f

-- one term alone
pub total_one : (i e k : ℕ) (f : ℕ → ℕ) → i ≤ k → k < e → ((j : ℕ) → (j ≡ k → ⊥) → f j ≡ 0) → total i e f ≡ f k
unfolding total
total_one i e k f lo hi others = totalIn_one (e - i) i k f lo (omega arith) others

-- gather

pub gather_end : {A : Type 0} (i e : ℕ) (f : ℕ → List A) → e ≤ i → gather i e f ≡ []
unfolding gather gather_between
gather_end i e f h = rw (over i e h)

pub gather_turn : {A : Type 0} (i e : ℕ) (f : ℕ → List A) → i < e → gather i e f ≡ f i ++ gather (i + 1) e f
unfolding gather gather_between
gather_turn i e f h = rw (turn i e h)

gatherIn_intro : {A : Type 0} (n i k : ℕ) (f : ℕ → List A) (a : A) → i ≤ k → k < i + n → Memᴰ a (f k) → Memᴰ a (gather_between n i f)
unfolding gather_between
gatherIn_intro zero i k f a lo hi m = absurd (omega arith)
gatherIn_intro (suc n) i k f a lo hi m =
    at_or_behind i k lo (λ z. Memᴰ.append_left (gather_between n (i + 1) f) (subst (λ j. Memᴰ a (f j)) z m))
    (λ z. Memᴰ.append_right (f i) (gatherIn_intro n (i + 1) k f a z (omega arith) m))

gatherIn_elim : {A : Type 0} (n i : ℕ) (f : ℕ → List A) (a : A) → Memᴰ a (gather_between n i f) → (k : ℕ) × Within i (i + n) k × Memᴰ a (f k)
unfolding gather_between
gatherIn_elim zero i f a m = absurd (Memᴰ.not-nil m)
gatherIn_elim (suc n) i f a m =
    ⊎_elim (λ h. (i, (omega arith, omega arith), h))
    (λ h. let (k, w, t) = gatherIn_elim n (i + 1) f a h in (k, (omega arith, omega arith), t))
    (Memᴰ.append_cases (f i) m)

pub gather_intro : {A : Type 0} (i e k : ℕ) (f : ℕ → List A) (a : A) → i ≤ k → k < e → Memᴰ a (f k) → Memᴰ a (gather i e f)
unfolding gather
gather_intro i e k f a lo hi m = gatherIn_intro (e - i) i k f a lo (omega arith) m

pub gather_elim : {A : Type 0} (i e : ℕ) (f : ℕ → List A) (a : A) → Memᴰ a (gather i e f) → (k : ℕ) × Within i e k × Memᴰ a (f k)
unfolding gather
gather_elim i e f a m =
    let (k, w, t) = gatherIn_elim (e - i) i f a m in
    (k, (w.0, omega arith), t)

-- only

pub only_intro : {A : Type 0} (b : Bool) (a : A) → b ≡ true → Memᴰ a (only b a)
unfolding only
only_intro true a h = Memᴰ.head refl
only_intro false a h = true_false h refl

pub only_elim : {A : Type 0} (b : Bool) (a x : A) → Memᴰ x (only b a) → (b ≡ true) × (x ≡ a)
unfolding only
only_elim true a x m = (refl, Memᴰ.eq_of_singleton m)
only_elim false a x m = absurd (Memᴰ.not-nil m)

-- from_all

pub from_all_intro : {A B : Type 0} (bs : List B) (b : B) (f : B → List A) (x : A) → Memᴰ b bs → Memᴰ x (f b) → Memᴰ x (from_all bs f)
unfolding from_all
from_all_intro [] b f x m h = absurd (Memᴰ.not-nil m)
from_all_intro (y ∷ bs) b f x m h =
    ⊎_elim (λ e. Memᴰ.append_left (from_all bs f) (subst (λ z. Memᴰ x (f z)) e h))
    (λ n. Memᴰ.append_right (f y) (from_all_intro bs b f x n h)) (Memᴰ.cases_cons m)

pub from_all_elim : {A B : Type 0} (bs : List B) (f : B → List A) (x : A) → Memᴰ x (from_all bs f) → (b : B) × Memᴰ b bs × Memᴰ x (f b)
unfolding from_all
from_all_elim [] f x m = absurd (Memᴰ.not-nil m)
from_all_elim (y ∷ bs) f x m =
    ⊎_elim (λ h. (y, Memᴰ.head refl, h))
    (λ h. let (b, n, k) = from_all_elim bs f x h in (b, Memᴰ.tail n, k))
    (Memᴰ.append_cases (f y) m)
