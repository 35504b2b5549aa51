-- The letters of a class stand together.
use Prim.Native.Nat.{ℕ, zero, suc, ◌+◌, ◌≤◌, ◌<◌}
use native.Mathlib.Decide.{ℕ_discrete, dec_lt}
use native.Mathlib.Numerals.{add-one}
use native.Mathlib.Omega.{arith}
use mathlib.Core.Path.{◌≡◌, sym, ◌∙◌, ap}
use mathlib.Core.Bool.{Bool, true, false}
use mathlib.Core.Logic.{⊎_elim}
use mathlib.Core.List.{[], ◌∷◌}
use lib.ListN.{get_or}
use lib.Dec.{ltb}
use borrow.Author.Tests.{ltb-true, lt-ltb, le-ltb}
use Rattle.model.specs.Index.{count}
use Rattle.model.specs.Keys.{Key}
use Rattle.model.specs.Rows.{Program}
use Rattle.model.specs.Tables.{Tables}
use Rattle.model.specs.Counters.{letter_keys, letter_count_of}
use Rattle.model.specs.Demands.{Below}
use Rattle.model.proofs.Logic.{true_false, test}
use Rattle.model.proofs.Index.{count_end, count_split, count_last, count_last_miss, count_reached}
use Rattle.model.proofs.Keys.{ascends_at}
use Rattle.model.proofs.Numbering.Letters.{keys_ascend}
use Rattle.system_letters.specs.Letters.{class_at, letters_before}
use Rattle.system_letters.proofs.Tables.{count_each}

-- no more indices pass than there are
count_most : (e : ℕ) (f : ℕ → Bool) → count 0 e f ≤ e
count_most zero f = omega (arith, count_end 0 0 f (omega arith))
count_most (suc e) f =
    let z = count_most e f in
    test (f e)
    (λ t. omega (arith, rw (add-one e) at (count_last 0 e f (omega arith) t)))
    (λ t. omega (arith, rw (add-one e) at (count_last_miss 0 e f (omega arith) t)))

-- where each index before one that passes passes too, so many indices pass as lie before the first that does not
module _ (n : ℕ) (f : ℕ → Bool) (down : (i j : ℕ) → i < j → j < n → f j ≡ true → f i ≡ true) where
  passing_before : (y : ℕ) → y < n → f y ≡ true → y < count 0 n f
  passing_before y l t =
      let each = count_each (y + 1) f (λ k b. elim (ℕ_discrete k y) [ yes e ↦ ap f e ∙ t | no e ↦ down k y (omega arith) l t ]) in
      omega (arith, count_split 0 (y + 1) n f (omega arith) (omega arith))

  failing_behind : (y : ℕ) → y < n → f y ≡ false → count 0 n f ≤ y
  failing_behind y l t = elim (dec_lt y (count 0 n f)) [
    | no z ↦ omega arith
    | yes z ↦
        let (k, b, passes, before) = count_reached n y f z in
        let most = count_most k f in
        elim (ℕ_discrete k y) [
          | yes e ↦ true_false (sym (ap f e) ∙ passes) t
          | no e ↦ true_false (down y k (omega arith) b passes) t
        ]
  ]

module _ (p : Program) (t : Tables) where
  first_upto : (a b : Key) → Below a b → get_or a 0 0 ≤ get_or b 0 0
  first_upto [] [] h = absurd h
  first_upto [] (y ∷ b) h = omega arith
  first_upto (x ∷ a) [] h = absurd h
  first_upto (x ∷ a) (y ∷ b) h = ⊎_elim (λ l. omega arith) (λ e. let same = e.0 in omega arith) h

  class_rises : (i j : ℕ) → i < j → j < letter_count_of p t → class_at p t i ≤ class_at p t j
  unfolding class_at letter_count_of
  class_rises i j l b = first_upto (get_or (letter_keys p t) i []) (get_or (letter_keys p t) j []) (ascends_at (letter_keys p t) i j (keys_ascend p t) l b)

  pub before_most : (c : ℕ) → letters_before p t c ≤ letter_count_of p t
  unfolding letters_before
  before_most c = count_most (letter_count_of p t) (λ y. ltb (class_at p t y) c)

  before_down : (c i j : ℕ) → i < j → j < letter_count_of p t → ltb (class_at p t j) c ≡ true → ltb (class_at p t i) c ≡ true
  before_down c i j l b h = lt-ltb (class_at p t i) c (omega (arith, class_rises i j l b, ltb-true (class_at p t j) c h))

  pub class_before : (c y : ℕ) → y < letter_count_of p t → class_at p t y < c → y < letters_before p t c
  unfolding letters_before
  class_before c y l h = passing_before (letter_count_of p t) (λ y. ltb (class_at p t y) c) (before_down c) y l (lt-ltb (class_at p t y) c h)

  pub class_behind : (c y : ℕ) → y < letter_count_of p t → c ≤ class_at p t y → letters_before p t c ≤ y
  unfolding letters_before
  class_behind c y l h = failing_behind (letter_count_of p t) (λ y. ltb (class_at p t y) c) (before_down c) y l (le-ltb (class_at p t y) c h)

  -- the letters of class c stand from where those before it end up to where those of the next begin
  pub class_there : (c y : ℕ) → y < letter_count_of p t → class_at p t y ≡ c → (letters_before p t c ≤ y) × (y < letters_before p t (c + 1))
  class_there c y l e = (class_behind c y l (omega arith), class_before (c + 1) y l (omega arith))

  pub class_here : (c y : ℕ) → letters_before p t c ≤ y → y < letters_before p t (c + 1) → class_at p t y ≡ c
  class_here c y a b =
      let l : y < letter_count_of p t = omega (arith, before_most (c + 1)) in
      elim (dec_lt (class_at p t y) c) [
        | yes z ↦ absurd (omega (arith, class_before c y l z))
        | no z ↦ elim (dec_lt c (class_at p t y)) [
          | yes x ↦ absurd (omega (arith, class_behind (c + 1) y l (omega arith)))
          | no x ↦ omega arith
        ]
      ]

  pub before_rises : (c : ℕ) → letters_before p t c ≤ letters_before p t (c + 1)
  before_rises c = elim (dec_lt (letters_before p t (c + 1)) (letters_before p t c)) [
    | no z ↦ omega arith
    | yes z ↦
        let l : letters_before p t (c + 1) < letter_count_of p t = omega (arith, before_most c) in
        elim (dec_lt (class_at p t (letters_before p t (c + 1))) c) [
          | yes x ↦ absurd (omega (arith, class_before (c + 1) (letters_before p t (c + 1)) l (omega arith)))
          | no x ↦ absurd (omega (arith, class_behind c (letters_before p t (c + 1)) l (omega arith)))
        ]
  ]

  pub before_upto : (c d : ℕ) → c ≤ d → letters_before p t c ≤ letters_before p t d
  before_upto c zero l = let z : c ≡ zero = omega arith in rw z (omega arith)
  before_upto c (suc d) l = elim (ℕ_discrete c (suc d)) [
    | yes e ↦ rw e (omega arith)
    | no ne ↦ omega (arith, before_upto c d (omega arith), rw (add-one d) at (before_rises d))
  ]
