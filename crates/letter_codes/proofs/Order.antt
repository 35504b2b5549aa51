-- The numbers of letters have the letters' order: letters with the same number of the constructor have as many heads, and each digit is below 128.
use Prim.Native.Nat.{ℕ, zero, suc, ◌+◌, ◌-◌, ◌*◌, ◌^◌, ◌≤◌, ◌<◌}
use native.Mathlib.Nat.{add-mul, mul-le-mul_right}
use native.Mathlib.Omega.{arith}
use mathlib.Core.Path.{◌≡◌, refl, sym, ◌∙◌, ap, subst}
use mathlib.Core.Bool.{true, false}
use mathlib.Core.List.{List, [], ◌∷◌, Memᴰ}
use mathlib.Core.Logic.{◌⊎◌, ⊎_elim}
use lib.ListN.{length, get_or}
use lib.Dec.{eqb}
use borrow.Author.Tests.{eqb-true}
use Rattle.model.specs.declared.Sizes.{Sizes}
use Rattle.model.specs.Limits.{max_arity}
use Rattle.model.specs.Index.{gather}
use Rattle.model.specs.Rows.{Program, program, tag, num, arity}
use Rattle.model.specs.Letters.{Letter, head_count, row_head_of}
use Rattle.model.specs.Tables.{Tables, tables}
use Rattle.model.specs.Closed.{argument}
use Rattle.model.specs.Counters.{name_heads, heads_each, any_argument, letters_allowed}
use Rattle.model.specs.Demands.{Below}
use Rattle.model.proofs.Logic.{test, true_false}
use Rattle.model.proofs.Numbering.Choices.{Chosen, gather_chosen, head_of_name, built_head, letter_from}
use Rattle.model.proofs.Numbering.Counters.{tag_inside, plain_head}
use Rattle.model.proofs.Parse.Lengths.{built_below}
use Rattle.lists.specs.Ready.{Ready}
use Rattle.lists.proofs.Facts.{rows_fit}
use Rattle.value_letters.specs.Letters.{digits_code, letter_code, value_arity_of}
use Rattle.value_letters.proofs.Values.{value_arguments}

-- each digit is below 128
abbrev Low : List ℕ → Type 0
Low l = (j : ℕ) → j < length l → get_or l j 0 < 128

tail_low : (x : ℕ) (l : List ℕ) → Low (x ∷ l) → Low l
tail_low x l h j b = h (suc j) (omega arith)

-- a first digit that is less, whatever follows
digit_less : (x y P r s : ℕ) → x < y → r < P → x * P + r < y * P + s
digit_less x y P r s l b = omega (arith, add-mul x 1 P, mul-le-mul_right {m = x + 1} {n = y} P (omega arith))

code_low : (n : ℕ) (l : List ℕ) → Low l → digits_code n l < 128 ^ n
unfolding digits_code
code_low zero l h = omega arith
code_low (suc n) [] h = omega (arith, code_low n [] h)
code_low (suc n) (x ∷ l) h =
    let r = code_low n l (tail_low x l h) in
    omega (arith, digit_less x 128 (128 ^ n) (digits_code n l) 0 (h 0 (omega arith)) r)

-- lists of one length
code_below : (n : ℕ) (a b : List ℕ) → length a ≡ length b → length a ≤ n → Low a → Low b → Below a b → digits_code n a < digits_code n b
unfolding digits_code
code_below n [] [] e l h k o = absurd o
code_below n [] (y ∷ b) e l h k o = absurd (omega arith)
code_below n (x ∷ a) [] e l h k o = absurd o
code_below zero (x ∷ a) (y ∷ b) e l h k o = absurd (omega arith)
code_below (suc n) (x ∷ a) (y ∷ b) e l h k o =
    ⊎_elim (λ z. digit_less x y (128 ^ n) (digits_code n a) (digits_code n b) z (code_low n a (tail_low x a h)))
    (λ z. let r = code_below n a b (omega arith) (omega arith) (tail_low x a h) (tail_low y b k) z.1 in let w = ap (λ q. q * 128 ^ n) z.0 in omega arith) o

module _ {ws : List ℕ} {s : Sizes} (h : Ready ws s) where
  abbrev p : Program
  p = program ws s

  abbrev t : Tables
  t = tables ws s

  small_head : (x : ℕ) → x < head_count p → x < 128
  unfolding head_count program
  small_head x l = omega (arith, h.limits.constructors)

  built_low : (v : ℕ) → tag p v ≡ 2 → row_head_of p v < p.constructors
  built_low v e = let z = built_head p t v e in omega (arith, built_below p (rows_fit h) v (tag_inside ws s v (omega arith)) e)

  few : (v : ℕ) → eqb (tag p v) 2 ≡ true → arity p (num p (v + 1)) ≤ max_arity
  unfolding value_arity_of
  few v e = let a = (value_arguments h v (value_arity_of p v) refl).few in rw (e, value_arity_of) at a

  -- the digits of a letter of v
  record Digits (v : ℕ) (l : Letter) : Type 0 where
    heads : List ℕ
    is : row_head_of p v ∷ heads ≡ l
    low : Low heads
    upto : length heads ≤ max_arity
    many : eqb (tag p v) 2 ≡ true → length heads ≡ arity p (row_head_of p v)
    none : eqb (tag p v) 2 ≡ false → length heads ≡ 0

  built_digits : (v : ℕ) (hs : List ℕ) → Chosen hs (heads_each p t any_argument v) → (length hs ≡ arity p (num p (v + 1))) × Low hs
  unfolding heads_each gather
  built_digits v hs c =
      let (l, each) = gather_chosen (arity p (num p (v + 1)) - 0) 0 (λ i. name_heads p t (any_argument i) (argument p v i)) hs c in
      (omega arith, λ j b. small_head (get_or hs j 0) (head_of_name p t (any_argument (0 + j)) (argument p v (0 + j)) (get_or hs j 0) (each j (omega arith))).0)

  digits_told : (v : ℕ) (l : Letter) → Memᴰ l (letters_allowed p t v) → Digits v l
  unfolding letters_allowed
  digits_told v l m =
      let f = letter_from p t any_argument v l m in
      test (eqb (tag p v) 2)
      (λ e.
      let b = eqb-true (tag p v) 2 e in
      let (many, low) = built_digits v f.heads (f.built b) in
      record {
        heads = f.heads;
        is = f.is;
        low = low;
        upto = omega (arith, few v e);
        many = λ z. many ∙ ap (arity p) (sym (built_head p t v b));
        none = λ z. true_false e z;
      })
      (λ e.
      let z = f.plain e in
      let none : length f.heads ≡ 0 = ap length z in
      record {
        heads = f.heads;
        is = f.is;
        low = λ j b. absurd (omega arith);
        upto = omega arith;
        many = λ y. true_false y e;
        none = λ y. none;
      })

  same_length : (v w : ℕ) {k l : Letter} (a : Digits v k) (b : Digits w l) → row_head_of p v ≡ row_head_of p w → length a.heads ≡ length b.heads
  same_length v w a b e =
      test (eqb (tag p v) 2)
      (λ x. test (eqb (tag p w) 2)
      (λ y. a.many x ∙ (ap (arity p) e ∙ sym (b.many y)))
      (λ y. absurd (omega (arith, built_low v (eqb-true (tag p v) 2 x), plain_head p w y))))
      (λ x. test (eqb (tag p w) 2)
      (λ y. absurd (omega (arith, built_low w (eqb-true (tag p w) 2 y), plain_head p v x)))
      (λ y. a.none x ∙ sym (b.none y)))

  pub code_order : (v w : ℕ) (k l : Letter) → Memᴰ k (letters_allowed p t v) → Memᴰ l (letters_allowed p t w) → Below k l → letter_code k < letter_code l
  unfolding letter_code digits_code
  code_order v w k l m n o =
      let a = digits_told v k m in
      let b = digits_told w l n in
      subst (λ z. letter_code z < letter_code l) a.is
      (subst (λ z. letter_code (row_head_of p v ∷ a.heads) < letter_code z) b.is
      (⊎_elim
      (λ x. digit_less (row_head_of p v) (row_head_of p w) (128 ^ 8) (digits_code 8 a.heads) (digits_code 8 b.heads) x (code_low 8 a.heads a.low))
      (λ x. let r = code_below 8 a.heads b.heads (same_length v w a b x.0) a.upto a.low b.low x.1 in let z = x.0 in omega arith)
      (subst (λ z. Below z (row_head_of p w ∷ b.heads)) (sym a.is) (subst (Below k) (sym b.is) o))))
