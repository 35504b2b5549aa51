-- Which letters of the program a value of the tables allows, told by their numbers.
use Prim.Native.Nat.{ℕ, zero, suc, ◌+◌, ◌-◌, ◌≤◌, ◌<◌}
use native.Mathlib.Numerals.{add-one}
use native.Mathlib.Omega.{arith}
use native.Mathlib.Decide.{dec_lt}
use mathlib.Core.Path.{◌≡◌, refl, sym, ◌∙◌, ap, subst}
use mathlib.Core.Bool.{Bool, true, false}
use mathlib.Core.List.Memᴰ
use mathlib.Core.List.{List, [], ◌∷◌, map, Memᴰ}
use lib.ListN.{length, get_or, drop, get_or-eq_default}
use lib.Dec.{eqb}
use borrow.Author.Tests.{eqb-true, eqb-false, eq-eqb}
use Rattle.bits.specs.Bits.{member}
use Rattle.model.specs.declared.Sizes.{Sizes}
use Rattle.model.specs.Index.{all, gather}
use Rattle.model.specs.Rows.{Program, program, tag, num, arity}
use Rattle.model.specs.Letters.{Letter, head, head_count, row_head_of}
use Rattle.model.specs.Tables.{Tables, tables}
use Rattle.model.specs.Closed.{argument}
use Rattle.model.specs.Counters.{any_argument, name_heads, heads_each, choices, letters_allowed, letter_keys, letter_count_of}
use Rattle.model.proofs.Logic.{test, and_left, and_right, and_intro}
use Rattle.model.proofs.Index.{all_elim, all_intro}
use Rattle.model.proofs.Keys.{getD_there}
use Rattle.model.proofs.Numbering.Choices.{chosen_in, chosen_gather, gather_chosen, head_of_name, built_head, letters_built, letters_plain, LetterOf, letter_from}
use Rattle.model.proofs.Numbering.Letters.{key_from}
use Rattle.model.proofs.Numbering.Counters.{plain_head}
use Rattle.lists.specs.Ready.{Ready}
use Rattle.system_letters.specs.Letters.{letter_at_of}
use Rattle.system_letters.proofs.Tables.{head_low, built_low}
use Rattle.letter_codes.specs.Codes.{Coded}
use Rattle.value_letters.specs.Letters.{HeadsKnown, value_arity_of}
use Rattle.value_letters.proofs.Values.{arity_built, arity_plain, value_arguments, member_head}
use Rattle.letter_sets.specs.Sets.{digit_of, code_allowed}
use Rattle.letter_sets.proofs.Digits.{letter_digit}

-- the number of arguments, by whether the value is built
count_built : (p : Program) (v : ℕ) → tag p v ≡ 2 → value_arity_of p v ≡ arity p (num p (v + 1))
unfolding arity
count_built p v e = sym (arity_built p v (tag p v) (num p (v + 1)) (num p (num p (v + 1))) refl e refl refl)

count_plain : (p : Program) (v : ℕ) → eqb (tag p v) 2 ≡ false → value_arity_of p v ≡ 0
count_plain p v e = sym (arity_plain p v (tag p v) refl (eqb-false (tag p v) 2 e))

no_heads : (xs : List ℕ) → length xs ≡ 0 → xs ≡ []
no_heads [] e = refl
no_heads (x ∷ xs) e = absurd (omega arith)

module _ {ws : List ℕ} {s : Sizes} (h : Ready ws s) where
  abbrev p : Program
  p = program ws s

  abbrev t : Tables
  t = tables ws s

  -- what letter y is: the head of some value of mail, and a head of each of that value's arguments
  pub record Known (y : ℕ) : Type 0 where
    pub value : ℕ
    pub letter : LetterOf p t any_argument value (letter_at_of p t y)

  pub letter_known : (y : ℕ) → y < letter_count_of p t → Known y
  unfolding letter_at_of letter_count_of letters_allowed
  letter_known y l =
      let a = key_from p t (get_or (letter_keys p t) y []) (getD_there (letter_keys p t) y l) in
      record { value = a.value; letter = letter_from p t any_argument a.value (drop 1 (get_or (letter_keys p t) y [])) (subst (λ k. Memᴰ (drop 1 k) (letters_allowed p t a.value)) a.same a.allows) }

  -- the heads of a letter of a value, behind its number
  module _ (v : ℕ) (l : Letter) (f : LetterOf p t any_argument v l) where
    pub first_digit : get_or l 0 0 ≡ row_head_of p v
    first_digit = ap (λ k. get_or k 0 0) (sym f.is)

    pub next_digit : (i : ℕ) → get_or l (i + 1) 0 ≡ get_or f.heads i 0
    next_digit i = ap (λ k. get_or k (i + 1) 0) (sym f.is) ∙ rw (add-one i)

    -- each argument's name has a value of the head
    pub heads_told : (length f.heads ≡ value_arity_of p v) × ((i : ℕ) → i < value_arity_of p v → Memᴰ (get_or f.heads i 0) (name_heads p t (any_argument i) (argument p v i)))
    unfolding heads_each gather
    heads_told = test (eqb (tag p v) 2)
        (λ e.
        let b = eqb-true (tag p v) 2 e in
        let c = count_built p v b in
        let (long, each) = gather_chosen (arity p (num p (v + 1)) - 0) 0 (λ i. name_heads p t (any_argument i) (argument p v i)) f.heads (f.built b) in
        (omega arith, λ i l. let z : 0 + i ≡ i = omega arith in rw z at (each i (omega arith))))
        (λ e. let c = count_plain p v e in (ap length (f.plain e) ∙ sym c, λ i l. absurd (omega arith)))

    heads_low : (i : ℕ) → get_or f.heads i 0 < head_count p
    unfolding head_count
    heads_low i = elim (dec_lt i (length f.heads)) [
      | yes z ↦ (head_of_name p t (any_argument i) (argument p v i) (get_or f.heads i 0) (heads_told.1 i (omega (arith, heads_told.0)))).0
      | no z ↦ let z : get_or f.heads i 0 ≡ 0 = get_or-eq_default f.heads 0 (omega arith) in omega arith
    ]

    pub digits_low : (i : ℕ) → get_or l i 0 < head_count p
    digits_low zero = omega (arith, first_digit, head_low h v)
    digits_low (suc i) = omega (arith, rw (add-one i) at (next_digit i), heads_low i)

  -- letters with one head have equally many digits
  pub same_count : (v u : ℕ) → row_head_of p v ≡ row_head_of p u → value_arity_of p v ≡ value_arity_of p u
  unfolding program
  same_count v u e = test (eqb (tag p v) 2)
      (λ x. let a = eqb-true (tag p v) 2 x in
      test (eqb (tag p u) 2)
      (λ y. let b = eqb-true (tag p u) 2 y in
      count_built p v a ∙ (ap (arity p) (sym (built_head p t v a) ∙ (e ∙ built_head p t u b)) ∙ sym (count_built p u b)))
      (λ y. absurd (omega (arith, plain_head p u y, built_head p t v a, built_low h v a))))
      (λ x. test (eqb (tag p u) 2)
      (λ y. let b = eqb-true (tag p u) 2 y in absurd (omega (arith, plain_head p v x, built_head p t u b, built_low h u b)))
      (λ y. count_plain p v x ∙ sym (count_plain p u y)))

  -- each number of a letter is a head
  pub letter_low : (y : ℕ) → y < letter_count_of p t → (i : ℕ) → get_or (letter_at_of p t y) i 0 < head_count p
  letter_low y l = let k = letter_known y l in digits_low k.value (letter_at_of p t y) k.letter

  -- the digits of the number of letter y are its own
  pub coded_digit : (codes : List ℕ) → Coded p t codes → (y : ℕ) → y < letter_count_of p t → (i : ℕ) → i ≤ 8 → digit_of (get_or codes y 0) i ≡ get_or (letter_at_of p t y) i 0
  unfolding head_count program
  coded_digit codes k y l i b =
      ap (λ c. digit_of c i) (k.code y l) ∙ letter_digit (letter_at_of p t y) i (λ j. omega (arith, letter_low y l j, h.limits.constructors)) b

  module _ (names : List ℕ) (g : HeadsKnown ws s names) where
    module _ (codes : List ℕ) (k : Coded p t codes) (y : ℕ) (l : y < letter_count_of p t) where
      abbrev code : ℕ
      code = get_or codes y 0

      -- the heads of arguments that the letter says
      said : (f : Known y) (i : ℕ) → i < value_arity_of p f.value → digit_of code (i + 1) ≡ get_or f.letter.heads i 0
      said f i b = coded_digit codes k y l (i + 1) (omega (arith, (value_arguments h f.value (value_arity_of p f.value) refl).few)) ∙ next_digit f.value (letter_at_of p t y) f.letter i

      pub in_allowed : (v : ℕ) → Memᴰ (letter_at_of p t y) (letters_allowed p t v) → code_allowed p names v code ≡ true
      unfolding code_allowed letters_allowed argument
      in_allowed v m =
          let f : Known y = record { value = v; letter = letter_from p t any_argument v (letter_at_of p t y) m } in
          and_intro (eqb (digit_of code 0) (row_head_of p v)) (all 0 (value_arity_of p v) (λ i. member names 2 (argument p v i) (digit_of code (i + 1))))
          (eq-eqb _ _ (coded_digit codes k y l 0 (omega arith) ∙ first_digit v (letter_at_of p t y) f.letter))
          (all_intro 0 (value_arity_of p v) (λ i. member names 2 (argument p v i) (digit_of code (i + 1)))
          (λ i _ b. ap (member names 2 (argument p v i)) (said f i b) ∙
          (member_head g (value_arguments h v (value_arity_of p v) refl) i (argument p v i) (get_or f.letter.heads i 0) refl b (heads_low v (letter_at_of p t y) f.letter i)).1 ((heads_told v (letter_at_of p t y) f.letter).1 i b)))

      pub allowed_in : (v : ℕ) → code_allowed p names v code ≡ true → Memᴰ (letter_at_of p t y) (letters_allowed p t v)
      unfolding code_allowed letters_allowed heads_each gather argument
      allowed_in v e =
          let f = letter_known y l in
          let hs = f.letter.heads in
          let tests : ℕ → Bool = λ i. member names 2 (argument p v i) (digit_of code (i + 1)) in
          let same : row_head_of p f.value ≡ row_head_of p v =
          sym (first_digit f.value (letter_at_of p t y) f.letter) ∙ (sym (coded_digit codes k y l 0 (omega arith)) ∙
          eqb-true (digit_of code 0) (row_head_of p v) (and_left (eqb (digit_of code 0) (row_head_of p v)) (all 0 (value_arity_of p v) tests) e)) in
          let count = same_count f.value v same in
          let long : length hs ≡ value_arity_of p v = (heads_told f.value (letter_at_of p t y) f.letter).0 ∙ count in
          let is : row_head_of p v ∷ hs ≡ letter_at_of p t y = ap (λ x. x ∷ hs) (sym same) ∙ f.letter.is in
          let each : (i : ℕ) → i < value_arity_of p v → Memᴰ (get_or hs i 0) (name_heads p t (any_argument i) (argument p v i)) =
          λ i b. (member_head g (value_arguments h v (value_arity_of p v) refl) i (argument p v i) (get_or hs i 0) refl b (heads_low f.value (letter_at_of p t y) f.letter i)).0
          (ap (member names 2 (argument p v i)) (sym (said f i (omega arith))) ∙
          all_elim 0 (value_arity_of p v) i tests (and_right (eqb (digit_of code 0) (row_head_of p v)) (all 0 (value_arity_of p v) tests) e) (omega arith) b) in
          test (eqb (tag p v) 2)
          (λ z.
          let b = eqb-true (tag p v) 2 z in
          let c = count_built p v b in
          rw (letters_built p t any_argument v b)
          (subst (λ x. Memᴰ x (map (λ xs. row_head_of p v ∷ xs) (choices (heads_each p t any_argument v)))) is
          (Memᴰ.map (λ xs. row_head_of p v ∷ xs)
          (chosen_in hs (heads_each p t any_argument v)
          (chosen_gather (arity p (num p (v + 1)) - 0) 0 (λ i. name_heads p t (any_argument i) (argument p v i)) hs (omega arith)
          (λ i less. let w : 0 + i ≡ i = omega arith in rw w (each i (omega arith))))))))
          (λ z. rw (letters_plain p t any_argument v z) (Memᴰ.head (sym is ∙ ap (λ xs. row_head_of p v ∷ xs) (no_heads hs (long ∙ count_plain p v z)))))
