-- Keys that begin alike stand together; the letters that rows of the bads name are those whose keys begin with the class and the numbers of the rows.
use Prim.Native.Nat.{ℕ, zero, suc, ◌+◌, ◌-◌, ◌≤◌, ◌<◌}
use native.Mathlib.Omega.{arith}
use mathlib.Core.Path.{◌≡◌, refl, sym, ◌∙◌, ap}
use mathlib.Core.Bool.{true}
use mathlib.Core.Logic.{⊎_elim}
use mathlib.Core.List.{[], ◌∷◌}
use lib.ListN.{length, get_or}
use lib.Dec.{eqb}
use borrow.Author.Tests.{eqb-true, eq-eqb}
use Rattle.model.specs.Keys.{Key, begins}
use Rattle.model.specs.Words.{Columns, right}
use Rattle.model.specs.Demands.{Below}
use Rattle.model.specs.Bads.{numbers}
use Rattle.model.proofs.Logic.{true_false, and_left, and_right, and_intro}
use Rattle.model.proofs.Index.{gather_end, gather_turn, all_elim, all_intro}
use Rattle.system_items.specs.Stretches.{digits_are}

-- a key between two that begin alike begins so too
pub begins_between : (q a b d : Key) → Below a b → Below b d → begins q a ≡ true → begins q d ≡ true → begins q b ≡ true
unfolding begins
begins_between [] a b d l m x y = refl
begins_between (n ∷ q) [] b d l m x y = true_false x refl
begins_between (n ∷ q) (i ∷ a) [] d l m x y = absurd l
begins_between (n ∷ q) (i ∷ a) (j ∷ b) [] l m x y = absurd m
begins_between (n ∷ q) (i ∷ a) (j ∷ b) (k ∷ d) l m x y =
    let same = eqb-true n i (and_left (eqb n i) (begins q a) x) in
    let alike = eqb-true n k (and_left (eqb n k) (begins q d) y) in
    ⊎_elim (λ u. ⊎_elim (λ v. absurd (omega arith)) (λ v. absurd (let e = v.0 in omega arith)) m)
    (λ u. ⊎_elim (λ v. absurd (let e = u.0 in omega arith))
    (λ v. and_intro (eqb n j) (begins q b) (eq-eqb n j (let e = u.0 in omega arith))
    (begins_between q a b d u.1 v.1 (and_right (eqb n i) (begins q a) x) (and_right (eqb n k) (begins q d) y)))
    m)
    l

-- what a key begins with, number by number
pub begins_intro : (q l : Key) → length q ≤ length l → ((j : ℕ) → j < length q → get_or l j 0 ≡ get_or q j 0) → begins q l ≡ true
unfolding begins
begins_intro [] l b f = refl
begins_intro (n ∷ q) [] b f = absurd (omega arith)
begins_intro (n ∷ q) (i ∷ l) b f =
    and_intro (eqb n i) (begins q l) (eq-eqb n i (sym (f 0 (omega arith))))
    (begins_intro q l (omega arith) (λ j k. f (suc j) (omega arith)))

pub begins_elim : (q l : Key) → begins q l ≡ true → (length q ≤ length l) × ((j : ℕ) → j < length q → get_or l j 0 ≡ get_or q j 0)
unfolding begins
begins_elim [] l x = (omega arith, λ j k. absurd (omega arith))
begins_elim (n ∷ q) [] x = true_false x refl
begins_elim (n ∷ q) (i ∷ l) x =
    let same = eqb-true n i (and_left (eqb n i) (begins q l) x) in
    let r = begins_elim q l (and_right (eqb n i) (begins q l) x) in
    (omega (arith, r.0), each same r.1)
  where
    each : n ≡ i → ((j : ℕ) → j < length q → get_or l j 0 ≡ get_or q j 0) → (j : ℕ) → j < length (n ∷ q) → get_or (i ∷ l) j 0 ≡ get_or (n ∷ q) j 0
    each e f zero b = sym e
    each e f (suc j) b = f j (omega arith)

-- one that is no longer is the same
pub begins_same : (q l : Key) → begins q l ≡ true → length l ≤ length q → l ≡ q
unfolding begins
begins_same [] [] x b = refl
begins_same [] (i ∷ l) x b = absurd (omega arith)
begins_same (n ∷ q) [] x b = true_false x refl
begins_same (n ∷ q) (i ∷ l) x b =
    let same = eqb-true n i (and_left (eqb n i) (begins q l) x) in
    let rest = begins_same q l (and_right (eqb n i) (begins q l) x) (omega arith) in
    cc

-- the numbers of rows
module _ (rows : Columns) where
  pub numbers_turn : (a e : ℕ) → a < e → numbers rows a e ≡ right rows a ∷ numbers rows (a + 1) e
  unfolding numbers
  numbers_turn a e b = gather_turn a e (λ i. right rows i ∷ []) b

  numbers_end : (a e : ℕ) → e ≤ a → numbers rows a e ≡ []
  unfolding numbers
  numbers_end a e b = gather_end a e (λ i. right rows i ∷ []) b

  pub numbers_one : (a e : ℕ) → e ≡ a + 1 → numbers rows a e ≡ right rows a ∷ []
  numbers_one a e z = numbers_turn a e (omega arith) ∙ ap (λ ns. right rows a ∷ ns) (numbers_end (a + 1) e (omega arith))

  numbers_told : (n a e : ℕ) → e ≡ a + n → (length (numbers rows a e) ≡ n) × ((j : ℕ) → j < n → get_or (numbers rows a e) j 0 ≡ right rows (a + j))
  numbers_told zero a e z = (ap length (numbers_end a e (omega arith)), λ j b. absurd (omega arith))
  numbers_told (suc n) a e z =
      let r = numbers_told n (a + 1) e (omega arith) in
      let t = numbers_turn a e (omega arith) in
      (ap length t ∙ ap suc r.0, λ j b. ap (λ ns. get_or ns j 0) t ∙ each r.1 j b)
    where
      each : ((j : ℕ) → j < n → get_or (numbers rows (a + 1) e) j 0 ≡ right rows (a + 1 + j)) → (j : ℕ) → j < suc n → get_or (right rows a ∷ numbers rows (a + 1) e) j 0 ≡ right rows (a + j)
      each f zero b = let y : a + 0 ≡ a = omega arith in rw y
      each f (suc j) b = let y : a + suc j ≡ a + 1 + j = omega arith in rw y (f j (omega arith))

  pub numbers_length : (a e : ℕ) → a ≤ e → length (numbers rows a e) ≡ e - a
  numbers_length a e b = (numbers_told (e - a) a e (omega arith)).0

  pub numbers_at : (a e j : ℕ) → a ≤ e → j < e - a → get_or (numbers rows a e) j 0 ≡ right rows (a + j)
  numbers_at a e j b l = (numbers_told (e - a) a e (omega arith)).1 j l

  -- a letter that is long enough has the numbers of the rows as its digits exactly where it begins with them
  module _ (a e : ℕ) (b : a ≤ e) (l : Key) where
    pub digits_begin : e - a ≤ length l → digits_are rows a e l ≡ true → begins (numbers rows a e) l ≡ true
    unfolding digits_are
    digits_begin long h =
        begins_intro (numbers rows a e) l (omega (arith, numbers_length a e b))
        (λ j k.
        let low : j < e - a = omega (arith, numbers_length a e b) in
        let z : a + j - a ≡ j = omega arith in
        let d = eqb-true (get_or l (a + j - a) 0) (right rows (a + j)) (all_elim a e (a + j) (λ i. eqb (get_or l (i - a) 0) (right rows i)) h (omega arith) (omega arith)) in
        (rw z at d) ∙ sym (numbers_at a e j b low))

    pub begin_digits : begins (numbers rows a e) l ≡ true → digits_are rows a e l ≡ true
    unfolding digits_are
    begin_digits h =
        all_intro a e (λ i. eqb (get_or l (i - a) 0) (right rows i))
        (λ i lo hi.
        let z : a + (i - a) ≡ i = omega arith in
        let d = (begins_elim (numbers rows a e) l h).1 (i - a) (omega (arith, numbers_length a e b)) in
        eq-eqb (get_or l (i - a) 0) (right rows i) (d ∙ (rw z at (numbers_at a e (i - a) b (omega arith)))))
