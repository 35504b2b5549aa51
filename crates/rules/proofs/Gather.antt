-- Laws of `gather` over a part of the indices.
use Prim.Native.Nat.{ℕ, zero, suc, ◌+◌, ◌-◌, ◌≤◌, ◌<◌}
use native.Mathlib.Omega.{arith}
use native.Mathlib.Numerals.{add-one}
use mathlib.Core.Path.{◌≡◌, refl, sym, ◌∙◌, ap, ap₂}
use mathlib.Core.Bool.{true, false}
use mathlib.Core.List.{List, [], ◌∷◌, ◌++◌, append_assoc, append-nil}
use lib.Dec.{eqb}
use borrow.Author.Tests.{eq-eqb, ne_eqb}
use Rattle.model.specs.Index.{gather_between, gather, from_all}
use Rattle.model.specs.Words.{Columns, left, right}
use Rattle.model.specs.Rows.{Program, branch, past_items}
use Rattle.model.specs.Heads.{branch_rows}
use Rattle.model.specs.Rules.{from_each}
use Rattle.model.proofs.Index.{gather_end, gather_turn}
use Rattle.lists.specs.Lists.{Ascending, range_from, range_to}
use Rattle.lists.proofs.Rising.{place_upto, begins_before, begins_within, begins_behind, begins_order}
use Rattle.positions.specs.Positions.{branch_row}

-- equal parts
gatherIn_same : {A : Type 0} (n i : ℕ) (f g : ℕ → List A) → ((k : ℕ) → i ≤ k → k < i + n → f k ≡ g k) → gather_between n i f ≡ gather_between n i g
unfolding gather_between
gatherIn_same zero i f g h = refl
gatherIn_same (suc n) i f g h = ap₂ (λ xs ys. xs ++ ys) (h i (omega arith) (omega arith)) (gatherIn_same n (i + 1) f g (λ k a b. h k (omega arith) (omega arith)))

pub gather_same : {A : Type 0} (i e : ℕ) (f g : ℕ → List A) → ((k : ℕ) → i ≤ k → k < e → f k ≡ g k) → gather i e f ≡ gather i e g
unfolding gather
gather_same i e f g h = gatherIn_same (e - i) i f g (λ k a b. h k a (omega arith))

-- nothing
gatherIn_none : {A : Type 0} (n i : ℕ) (f : ℕ → List A) → ((k : ℕ) → i ≤ k → k < i + n → f k ≡ []) → gather_between n i f ≡ []
unfolding gather_between
gatherIn_none zero i f h = refl
gatherIn_none (suc n) i f h = rw (h i (omega arith) (omega arith)) (gatherIn_none n (i + 1) f (λ k a b. h k (omega arith) (omega arith)))

pub gather_none : {A : Type 0} (i e : ℕ) (f : ℕ → List A) → ((k : ℕ) → i ≤ k → k < e → f k ≡ []) → gather i e f ≡ []
unfolding gather
gather_none i e f h = gatherIn_none (e - i) i f (λ k a b. h k a (omega arith))

-- up to k, and from k on
gatherIn_split : {A : Type 0} (n m i : ℕ) (f : ℕ → List A) → gather_between (n + m) i f ≡ gather_between n i f ++ gather_between m (i + n) f
unfolding gather_between
gatherIn_split zero m i f = let a : zero + m ≡ m = omega arith in let b : i + zero ≡ i = omega arith in rw (a, b)
gatherIn_split (suc n) m i f =
    let a : suc n + m ≡ suc (n + m) = omega arith in
    let b : i + suc n ≡ i + 1 + n = omega arith in
    rw (a, b) (ap (λ xs. f i ++ xs) (gatherIn_split n m (i + 1) f) ∙ sym (append_assoc (f i) (gather_between n (i + 1) f) (gather_between m (i + 1 + n) f)))

pub gather_split : {A : Type 0} (i k e : ℕ) (f : ℕ → List A) → i ≤ k → k ≤ e → gather i e f ≡ gather i k f ++ gather k e f
unfolding gather
gather_split i k e f a b =
    let x : e - i ≡ (k - i) + (e - k) = omega arith in
    let y : i + (k - i) ≡ k = omega arith in
    rw x (rw y at (gatherIn_split (k - i) (e - k) i f))

-- one index more
pub gather_last : {A : Type 0} (a k : ℕ) (f : ℕ → List A) → a ≤ k → gather a (k + 1) f ≡ gather a k f ++ f k
gather_last a k f h =
    gather_split a k (k + 1) f h (omega arith) ∙
    ap (λ xs. gather a k f ++ xs) (gather_turn k (k + 1) f (omega arith) ∙ (ap (λ xs. f k ++ xs) (gather_end (k + 1) (k + 1) f (omega arith)) ∙ append-nil (f k)))

-- only the indices from a up to b give anything
pub gather_part : {A : Type 0} (a b e : ℕ) (f g : ℕ → List A) → a ≤ b → b ≤ e → ((k : ℕ) → k < a → f k ≡ []) → ((k : ℕ) → a ≤ k → k < b → f k ≡ g k) → ((k : ℕ) → b ≤ k → k < e → f k ≡ []) → gather 0 e f ≡ gather a b g
gather_part a b e f g l m front middle back =
    gather_split 0 a e f (omega arith) (omega arith) ∙
    (ap₂ (λ xs ys. xs ++ ys) (gather_none 0 a f (λ k x y. front k y)) (gather_split a b e f l m) ∙
    (ap₂ (λ xs ys. xs ++ ys) (gather_same a b f g middle) (gather_none b e f back) ∙ append-nil (gather a b g)))

-- the indices from a on
gatherIn_from : {A : Type 0} (n i a : ℕ) (f : ℕ → List A) → gather_between n i (λ k. f (a + k)) ≡ gather_between n (a + i) f
unfolding gather_between
gatherIn_from zero i a f = refl
gatherIn_from (suc n) i a f = let z : a + i + 1 ≡ a + (i + 1) = omega arith in rw z (ap (λ xs. f (a + i) ++ xs) (gatherIn_from n (i + 1) a f))

pub gather_from : {A : Type 0} (a n : ℕ) (f : ℕ → List A) → gather 0 n (λ k. f (a + k)) ≡ gather a (a + n) f
unfolding gather
gather_from a n f =
    let x : n - 0 ≡ n = omega arith in
    let y : a + n - a ≡ n = omega arith in
    let z : a + 0 ≡ a = omega arith in
    rw (x, y) (rw z at (gatherIn_from n 0 a f))

-- all indices one on
gatherIn_shift : {A : Type 0} (n i : ℕ) (f : ℕ → List A) → gather_between n (i + 1) f ≡ gather_between n i (λ j. f (j + 1))
unfolding gather_between
gatherIn_shift zero i f = refl
gatherIn_shift (suc n) i f = ap (λ xs. f (i + 1) ++ xs) (gatherIn_shift n (i + 1) f)

pub gather_next : {A : Type 0} (n : ℕ) (f : ℕ → List A) → gather 0 (suc n) f ≡ f 0 ++ gather 0 n (λ j. f (j + 1))
unfolding gather gather_between
gather_next n f =
    let a : suc n - 0 ≡ suc n = omega arith in
    let b : n - 0 ≡ n = omega arith in
    rw (a, b) (ap (λ xs. f 0 ++ xs) (gatherIn_shift n 0 f))

-- what a list that ascends pairs with a, in its part of the list
pub each_range : {A : Type 0} (c : Columns) (a : ℕ) (f : ℕ → List A) → Ascending c [] → from_each c a f ≡ gather (range_from c a) (range_to c a) (λ j. f (right c j))
unfolding from_each range_from range_to
each_range {A} c a f rising =
    gather_part (range_from c a) (range_to c a) c.size at (λ j. f (right c j)) (begins_order c [] a rising) (place_upto c [] ((a + 1) ∷ 0 ∷ 0 ∷ []))
    (λ k y. miss k (begins_before c [] a k y)) (λ k x y. hit k (begins_within c [] a rising k x y)) (λ k x y. miss k (begins_behind c [] a rising k x y))
  where
    at : ℕ → List A
    at i = elim (eqb (left c i) a) [ true ↦ f (right c i) | false ↦ [] ]

    miss : (i : ℕ) → (left c i ≡ a → ⊥) → at i ≡ []
    miss i ne = rw (ne_eqb (left c i) a ne, at)

    hit : (i : ℕ) → left c i ≡ a → at i ≡ f (right c i)
    hit i e = rw (eq-eqb (left c i) a e, at)

-- what the branches give, one after the other
pub rows_range : {A : Type 0} (p : Program) (n q : ℕ) (f : ℕ → List A) → from_all (branch_rows p n q) f ≡ gather 0 n (λ j. f (branch_row p q j))
unfolding from_all branch_rows branch_row
rows_range p zero q f = sym (gather_end 0 0 (λ j. f (branch_row p q j)) (omega arith))
rows_range p (suc n) q f =
    ap (λ xs. f q ++ xs) (rows_range p n (past_items p branch q) f ∙ gather_same 0 n (λ j. f (branch_row p (past_items p branch q) j)) (λ j. f (branch_row p q (j + 1))) (λ j x y. ap f (next j))) ∙
    sym (gather_next n (λ j. f (branch_row p q j)))
  where
    next : (j : ℕ) → branch_row p (past_items p branch q) j ≡ branch_row p q (j + 1)
    next j = rw (add-one j)
