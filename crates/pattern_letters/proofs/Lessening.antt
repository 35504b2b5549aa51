-- Sets of letters: what of a value's letters is left.
use Prim.Native.Nat.{ℕ, zero, suc, ◌+◌, ◌*◌, ◌-◌, ◌≤◌, ◌<◌}
use native.Mathlib.Decide.{ℕ_discrete, dec_lt}
use native.Mathlib.Nat.{mul-le-mul_right}
use native.Mathlib.Omega.{arith}
use mathlib.Core.Path.{◌≡◌, refl, sym, ◌∙◌, ap}
use mathlib.Core.Bool.{Bool, true, false, not, ◌&&◌, ◌||◌}
use mathlib.Core.List.{List, [], ◌∷◌, ◌++◌, append-nil, Memᴰ}
use mathlib.Core.Logic.{◌↔◌, ⊎_elim}
use lib.Dec.{eqb, ltb}
use lib.ListN.{get_or}
use borrow.Author.Tests.{eqb-true, eq-eqb, ne_eqb, lt-ltb, le-ltb, not-true, not-false}
use Rattle.bits.specs.Bits.{member, Row, SetIs}
use Rattle.model.specs.declared.Sizes.{Sizes}
use Rattle.model.specs.Limits.{max_arity, max_depth}
use Rattle.model.specs.Index.{gather, any, all, implies}
use Rattle.model.specs.Words.{left, right}
use Rattle.model.specs.Rows.{Program, program, tag, num, arity}
use Rattle.model.specs.Letters.{Letter, head_count, row_head_of}
use Rattle.model.specs.Tables.{Tables}
use Rattle.model.specs.Closed.{argument, subpattern, is_same_constructor, may_match, may_take}
use Rattle.model.specs.Counters.{letters_where, letters_allowed, any_argument}
use Rattle.model.specs.Rules.{argument_fits, letters_read}
use Rattle.model.specs.Wanted.{Member}
use Rattle.model.specs.TwoDeep.{LetterOf, with_heads, alone}
use Rattle.model.proofs.Logic.{test, true_false, and_left, and_right, and_intro, implies_elim, implies_intro, and_true, both, and_joined}
use Rattle.model.proofs.Index.{any_intro, all_intro, all_elim, all_end}
use Rattle.model.proofs.Exact.Members.{some_of_iff}
use Rattle.model.proofs.Numbering.Choices.{where_allowed}
use Rattle.model.proofs.TwoDeep.{letter_told, letter_listed}
use Rattle.rules.proofs.Gather.{gather_last}
use Rattle.system_letters.specs.Letters.{letter_at_of, letter_width_of, digit_set, allowed_set, LetterSets, Found}
use Rattle.sent_letters.proofs.Found.{row_kept, letter_inside, found_join, entry_has}
use Rattle.pattern_heads.specs.Fitting.{begins, does_value_fit, does_head_fit, has_head}
use Rattle.pattern_letters.specs.Picked.{leaves_head, head_of, leaves_argument, leaves_below, leaves_first, leaves, Left}

-- the sum of a set's number
pub set_small : (i k h : ℕ) → i ≤ 8 → k ≤ 66 → h < k → i * k + h < 4096
set_small i k h a b c = omega (arith, mul-le-mul_right k a)

and_no : (a b : Bool) → a ≡ false → (a && b) ≡ false
and_no true b e = true_false refl e
and_no false b e = refl

all_last : (k : ℕ) (f : ℕ → Bool) → all 0 (k + 1) f ≡ (all 0 k f && f k)
all_last k f = both _ _
    (λ h. and_intro (all 0 k f) (f k) (all_intro 0 k f (λ i a b. all_elim 0 (k + 1) i f h a (omega arith))) (all_elim 0 (k + 1) k f h (omega arith) (omega arith)))
    (λ h. all_intro 0 (k + 1) f (λ i a b. elim (ℕ_discrete i k) [
      | yes e ↦ ap f e ∙ and_right (all 0 k f) (f k) h
      | no ne ↦ all_elim 0 k i f (and_left (all 0 k f) (f k) h) a (omega arith)
    ]))

-- a test that is asked of numbers below h: one number more
below_kept : (f : ℕ → Bool) (h d : ℕ) → f h ≡ true → implies (ltb d h) (f d) ≡ implies (ltb d (h + 1)) (f d)
unfolding implies
below_kept f h d e = elim (dec_lt d h) [
  | yes a ↦ rw (lt-ltb d h a, lt-ltb d (h + 1) (omega arith))
  | no a ↦ elim (ℕ_discrete d h) [
    | yes b ↦ rw (b, le-ltb h h (omega arith), lt-ltb h (h + 1) (omega arith)) (sym e)
    | no b ↦ rw (le-ltb d h (omega arith), le-ltb d (h + 1) (omega arith))
  ]
]

below_lost : (f : ℕ → Bool) (h d : ℕ) → f h ≡ false → (implies (ltb d h) (f d) && not (eqb d h)) ≡ implies (ltb d (h + 1)) (f d)
unfolding implies
below_lost f h d e = elim (dec_lt d h) [
  | yes a ↦ rw (lt-ltb d h a, lt-ltb d (h + 1) (omega arith), ne_eqb d h (λ z. omega arith)) (and_true (f d))
  | no a ↦ elim (ℕ_discrete d h) [
    | yes b ↦ rw (b, le-ltb h h (omega arith), lt-ltb h (h + 1) (omega arith), eq-eqb h h refl) (sym e)
    | no b ↦ rw (le-ltb d h (omega arith), le-ltb d (h + 1) (omega arith), ne_eqb d h b)
  ]
]

below_all : (f : ℕ → Bool) (h d : ℕ) → (h ≤ d → f d ≡ true) → implies (ltb d h) (f d) ≡ f d
unfolding implies
below_all f h d e = elim (dec_lt d h) [ yes a ↦ rw (lt-ltb d h a) | no a ↦ rw (le-ltb d h (omega arith)) (sym (e (omega arith))) ]

-- what a branch reads of a value, the value allows
pub read_allowed : (p : Program) (t : Tables) (q v : ℕ) (l : Letter) → Memᴰ l (letters_read p t q v) → Memᴰ l (letters_allowed p t v)
unfolding letters_read
read_allowed p t q v l m =
    test (may_take p t q v)
    (λ e. where_allowed p t (argument_fits p t q) v l (rw (e, letters_read) at m))
    (λ e. absurd (mathlib.Core.List.Memᴰ.not-nil (rw (e, letters_read) at m)))

module _ (p : Program) (t : Tables) where
  -- the letters of a value that a pattern leaves are those that it reads
  module _ (low : (v : ℕ) → row_head_of p v < head_count p) (q v : ℕ) (begun : begins p t q v ≡ true) where
    -- the letters where each argument passes, as a list and outright
    abbrev Where : (ℕ → ℕ → Bool) → Letter → Type 0
    Where passes l = LetterOf p t (λ i w. passes i w ≡ true) v l

    told : (passes : ℕ → ℕ → Bool) (l : Letter) → Memᴰ l (letters_where p t passes v) → Where passes l
    told passes l m = letter_told p t low passes {Passes = λ i w. passes i w ≡ true} (λ i w. (λ h. h, λ h. h)) v l m

    listed : (passes : ℕ → ℕ → Bool) (l : Letter) → Where passes l → Memᴰ l (letters_where p t passes v)
    listed passes l m = letter_listed p t low passes {Passes = λ i w. passes i w ≡ true} (λ i w. (λ h. h, λ h. h)) v l m

    -- where the pattern is no constructor's every argument fits
    fits_any : (tag p q ≡ 31 → ⊥) → (i w : ℕ) → argument_fits p t q i w ≡ true
    unfolding argument_fits implies
    fits_any ne i w = rw (ne_eqb (tag p q) 31 ne)

    all_fit : (tag p q ≡ 31 → ⊥) → (l : Letter) → Where any_argument l → Where (argument_fits p t q) l
    all_fit ne l (with_heads hs b many each) = with_heads hs b many (λ i k. let (w, m, (e, z)) = each i k in (w, m, (e, fits_any ne i w)))
    all_fit ne l (alone n) = alone n

    module _ (made : tag p q ≡ 31) where
      built : (tag p v ≡ 2) × (num p (v + 1) ≡ num p q)
      unfolding begins is_same_constructor
      built =
          let same = rw (begins, eq-eqb (tag p q) 31 made) at begun in
          (eqb-true _ _ (and_left (eqb (tag p v) 2) _ same), eqb-true _ _ (and_right (eqb (tag p v) 2) _ same))

      fit : (i w : ℕ) → may_match p t (max_depth - 1) (subpattern p max_depth q i) w ≡ true → argument_fits p t q i w ≡ true
      unfolding argument_fits implies
      fit i w h = rw (eq-eqb (tag p q) 31 made) h

      unfit : (i w : ℕ) → argument_fits p t q i w ≡ true → may_match p t (max_depth - 1) (subpattern p max_depth q i) w ≡ true
      unfolding argument_fits implies
      unfit i w h = rw (eq-eqb (tag p q) 31 made) at h

      -- a head that some value has, and that is left, has a value that fits
      head_left : (n r h : ℕ) → has_head p t n h ≡ true → leaves_head p t n r h ≡ true → does_head_fit p t n r h ≡ true
      unfolding leaves_head
      head_left n r h a b = implies_elim (has_head p t n h) (does_head_fit p t n r h) b a

      -- by the values of the name n, which has one of head h
      fits_some : (n r h : ℕ) → (does_head_fit p t n r h ≡ true) ↔ ((w : ℕ) × Member t.flow n w × ((row_head_of p w ≡ h) × (may_match p t (max_depth - 1) r w ≡ true)))
      unfolding does_head_fit does_value_fit
      fits_some n r h = some_of_iff t.flow n (λ w. eqb (row_head_of p w) h && may_match p t (max_depth - 1) r w) (λ w. (
        λ z. (eqb-true (row_head_of p w) h (and_left (eqb (row_head_of p w) h) _ z), and_right (eqb (row_head_of p w) h) _ z),
        λ z. and_intro (eqb (row_head_of p w) h) _ (eq-eqb (row_head_of p w) h z.0) z.1,
      ))

      head_there : (n h w : ℕ) → Member t.flow n w → row_head_of p w ≡ h → has_head p t n h ≡ true
      unfolding has_head
      head_there n h w m e = (some_of_iff t.flow n (λ u. eqb (row_head_of p u) h) (λ u. (λ z. z, λ z. z))).1 (w, m, eq-eqb (row_head_of p w) h e)

      -- letter y, whose heads are those of l
      module _ (y : ℕ) where
        same_count : arity p (num p (v + 1)) ≡ arity p (num p q)
        same_count = ap (arity p) built.1

        left_fits : (l : Letter) → ((i : ℕ) → head_of p t i y ≡ get_or l (i + 1) 0) → leaves_first p t q v (arity p (num p q)) y ≡ true → Where any_argument l → Where (argument_fits p t q) l
        unfolding leaves_first leaves_argument
        left_fits l same all (alone n) = alone n
        left_fits l same all (with_heads hs b many each) =
            with_heads hs b many
            (λ i k.
            let (w, m, (e, z)) = each i k in
            let one = all_elim 0 (arity p (num p q)) i _ all (omega arith) (let x = same_count in omega arith) in
            let is : head_of p t i y ≡ get_or hs i 0 = same i ∙ ap (λ x. get_or (num p (v + 1) ∷ hs) x 0) (next i) in
            let (u, n, (f, g)) = (fits_some (argument p v i) (subpattern p max_depth q i) (get_or hs i 0)).0 (head_left (argument p v i) (subpattern p max_depth q i) (get_or hs i 0) (head_there (argument p v i) (get_or hs i 0) w m e) (rw is at one)) in
            (u, n, (f, fit i u g)))
          where
            next : (i : ℕ) → i + 1 ≡ suc i
            next i = omega arith

        fits_left : (l : Letter) → ((i : ℕ) → head_of p t i y ≡ get_or l (i + 1) 0) → Where (argument_fits p t q) l → leaves_first p t q v (arity p (num p q)) y ≡ true
        unfolding leaves_first leaves_argument leaves_head
        fits_left l same (alone n) = absurd (n built.0)
        fits_left l same (with_heads hs b many each) =
            all_intro 0 (arity p (num p q)) _
            (λ i a k.
            let (w, m, (e, z)) = each i (let x = same_count in omega arith) in
            let is : head_of p t i y ≡ get_or hs i 0 = same i ∙ ap (λ x. get_or (num p (v + 1) ∷ hs) x 0) (next i) in
            implies_intro (has_head p t (argument p v i) (head_of p t i y)) _
            (λ _. rw is ((fits_some (argument p v i) (subpattern p max_depth q i) (get_or hs i 0)).1 (w, m, (e, unfit i w z)))))
          where
            next : (i : ℕ) → i + 1 ≡ suc i
            next i = omega arith

      -- a letter whose heads fit is one of a value that the pattern may match
      fits_taken : (l : Letter) → Where (argument_fits p t q) l → may_take p t q v ≡ true
      unfolding may_take may_match is_same_constructor
      fits_taken l (alone n) = absurd (n built.0)
      fits_taken l (with_heads hs b many each) =
          rw (may_match, eq-eqb (tag p q) 31 made) (and_intro (eqb (tag p v) 2 && eqb (num p (v + 1)) (num p q)) _
          (and_intro (eqb (tag p v) 2) _ (eq-eqb (tag p v) 2 built.0) (eq-eqb (num p (v + 1)) (num p q) built.1))
          (all_intro 0 (arity p (num p q)) _ (λ i a k.
          let (w, m, (e, z)) = each i (let x = ap (arity p) built.1 in omega arith) in
          (some_of_iff t.flow (argument p v i) (may_match p t (max_depth - 1) (subpattern p max_depth q i)) (λ u. (λ x. x, λ x. x))).1 (w, m, unfit i w z))))

    -- a pattern that is no constructor's may match what it begins with
    taken : (tag p q ≡ 31 → ⊥) → may_take p t q v ≡ true
    unfolding begins
    taken ne = rw (begins, ne_eqb (tag p q) 31 ne) at begun

    -- what is left of what the value allows
    left_read : (y : ℕ) → Memᴰ (letter_at_of p t y) (letters_allowed p t v) → leaves p t q v y ≡ true → Memᴰ (letter_at_of p t y) (letters_read p t q v)
    unfolding letters_read letters_allowed leaves head_of
    left_read y m h = elim (ℕ_discrete (tag p q) 31) [
      | yes e ↦
          let fits = left_fits e y (letter_at_of p t y) (λ i. refl) (implies_elim (eqb (tag p q) 31) _ h (eq-eqb (tag p q) 31 e)) (told any_argument (letter_at_of p t y) m) in
          rw (fits_taken e (letter_at_of p t y) fits, letters_read) (listed (argument_fits p t q) (letter_at_of p t y) fits)
      | no ne ↦ rw (taken ne, letters_read) (listed (argument_fits p t q) (letter_at_of p t y) (all_fit ne (letter_at_of p t y) (told any_argument (letter_at_of p t y) m)))
    ]

    read_left : (y : ℕ) → Memᴰ (letter_at_of p t y) (letters_read p t q v) → Memᴰ (letter_at_of p t y) (letters_allowed p t v) × (leaves p t q v y ≡ true)
    unfolding letters_read leaves head_of
    read_left y m =
        let k : Memᴰ (letter_at_of p t y) (letters_where p t (argument_fits p t q) v) = test (may_take p t q v)
        (λ e. rw (e, letters_read) at m)
        (λ e. absurd (mathlib.Core.List.Memᴰ.not-nil (rw (e, letters_read) at m))) in (
          where_allowed p t (argument_fits p t q) v (letter_at_of p t y) k,
          implies_intro (eqb (tag p q) 31) _ (λ e. fits_left (eqb-true (tag p q) 31 e) y (letter_at_of p t y) (λ i. refl) (told (argument_fits p t q) (letter_at_of p t y) k)),
        )

  -- one mail entry: what the pattern at row q reads of it
  module _ (low : (v : ℕ) → row_head_of p v < head_count p) (c q j v from : ℕ) (behind : from ≤ j) (value : v ≡ right t.mail j) where
    abbrev Turn : ℕ → List Letter
    Turn k = letters_read p t q (right t.mail k)

    turned : gather from (j + 1) Turn ≡ gather from j Turn ++ letters_read p t q v
    turned = gather_last from j Turn behind ∙ ap (λ u. gather from j Turn ++ letters_read p t q u) (sym value)

    -- what a pattern does not begin with it may not match
    untaken : begins p t q v ≡ false → may_take p t q v ≡ false
    unfolding begins may_take may_match
    untaken e = elim (ℕ_discrete (tag p q) 31) [
      | yes made ↦ rw (may_match, eq-eqb (tag p q) 31 made) (and_no _ _ (rw (begins, eq-eqb (tag p q) 31 made) at e))
      | no ne ↦ rw (begins, ne_eqb (tag p q) 31 ne) at e
    ]

    pub found_passed : (b : Bool) (u : List ℕ) → b ≡ begins p t q v → not b ≡ true → Found p t c (gather from j Turn) u → Found p t c (gather from (j + 1) Turn) u
    unfolding letters_read
    found_passed b u e n f =
        let none : letters_read p t q v ≡ [] = rw (untaken (sym e ∙ not-true b n), letters_read) in
        rw (turned, none, append-nil (gather from j Turn)) f

    module _ (letters : List ℕ) (sets : LetterSets p t letters) (w set : ℕ) (e : w ≡ letter_width_of p t) (at : set ≡ allowed_set p j) (there : j < t.mail.size) (class : left t.mail j ≡ c) where
      -- the value has no letter
      pub found_hollow : (b : Bool) (u : List ℕ) → b ≡ any 0 (64 * w) (λ y. member letters w set y && member letters w set y) → not b ≡ true → Found p t c (gather from j Turn) u → Found p t c (gather from (j + 1) Turn) u
      found_hollow b u e' n f = rw turned (record {
        row = f.row;
        has = λ y l. (
          λ h. let (x, m) = (f.has y l).0 h in (x, mathlib.Core.List.Memᴰ.append_left (letters_read p t q v) m),
          λ h. ⊎_elim
              (λ m. (f.has y l).1 (h.0, m))
              (λ m. let in-set = (entry_has p t c letters sets w set j v e at there class (sym value) y l).1 (h.0, read_allowed p t q v (letter_at_of p t y) m) in
              true_false (any_intro 0 (64 * w) y (λ k. member letters w set k && member letters w set k) (omega arith) (rw e (letter_inside p t y l)) (and_intro (member letters w set y) _ in-set in-set)) (sym e' ∙ not-true b n))
              (mathlib.Core.List.Memᴰ.append_cases (gather from j Turn) h.1),
        );
      })

      pub found_read : (b : Bool) (u u' part part₁ part₂ : List ℕ) → b ≡ begins p t q v → not b ≡ false → Found p t c (gather from j Turn) u → SetIs w 0 (member letters w set) part part₁ → Left p t (leaves p t q v) part₁ part₂ → SetIs w 0 (λ y. member u w 0 y || member part₂ w 0 y) u u' → Found p t c (gather from (j + 1) Turn) u'
      found_read b u u' part part₁ part₂ e' n f copied less is =
          let begun : begins p t q v ≡ true = sym e' ∙ not-false b n in
          rw turned (found_join p t c (gather from j Turn) (letters_read p t q v) w (member part₂ w 0) u u' e f
          (λ y l.
          let inside : y < 64 * w = rw e (letter_inside p t y l) in
          let has : member part₂ w 0 y ≡ (member part₁ w 0 y && leaves p t q v y) = rw e (less.has y l) in
          let was = copied.here y inside in
          let (to, from') = entry_has p t c letters sets w set j v e at there class (sym value) y l in (
            λ h.
                let both' = sym has ∙ h in
                let (x, m) = to (sym was ∙ and_left (member part₁ w 0 y) (leaves p t q v y) both') in
                (x, left_read low q v begun y m (and_right (member part₁ w 0 y) (leaves p t q v y) both')),
            λ h.
                let (m, z) = read_left low q v begun y h.1 in
                has ∙ and_intro (member part₁ w 0 y) (leaves p t q v y) (was ∙ from' (h.0, m)) z,
          )) is)

  -- the arguments of a constructor pattern, one after the other
  module _ (q v : ℕ) where
    pub left_first : (w : ℕ) (u : List ℕ) → w ≡ letter_width_of p t → Row u w 0 → Left p t (leaves_first p t q v 0) u u
    unfolding leaves_first
    left_first w u e r = record { long = refl; row = rw e at r; has = λ y l. rw (all_end 0 0 (λ i. leaves_argument p t i (argument p v i) (subpattern p max_depth q i) y) (omega arith)) (sym (and_true (member u (letter_width_of p t) 0 y))) }

    pub left_next : (k n r : ℕ) (u u₁ u₂ : List ℕ) → n ≡ argument p v k → r ≡ subpattern p max_depth q k → Left p t (leaves_first p t q v k) u u₁ → Left p t (leaves_argument p t k n r) u₁ u₂ → Left p t (leaves_first p t q v (k + 1)) u u₂
    unfolding leaves_first
    left_next k n r u u₁ u₂ e f a b = record {
      long = b.long ∙ a.long;
      row = b.row;
      has = λ y l.
          b.has y l ∙ (ap (λ x. x && leaves_argument p t k n r y) (a.has y l) ∙
          (sym (and_joined (member u (letter_width_of p t) 0 y) (leaves_first p t q v k y) (leaves_argument p t k n r y)) ∙
          ap (λ x. member u (letter_width_of p t) 0 y && x) (rw (e, f) (sym (all_last k (λ i. leaves_argument p t i (argument p v i) (subpattern p max_depth q i) y))))));
    }

    pub left_over : (k n x : ℕ) (u u' : List ℕ) → x ≡ num p q → n ≡ num p x → k ≡ n → tag p q ≡ 31 → Left p t (leaves_first p t q v k) u u' → Left p t (leaves p t q v) u u'
    unfolding leaves implies arity
    left_over k n x u u' a b e made f = record {
      long = f.long;
      row = f.row;
      has = λ y l. f.has y l ∙ rw (eq-eqb (tag p q) 31 made) (ap (λ m. member u (letter_width_of p t) 0 y && leaves_first p t q v m y) (e ∙ (b ∙ ap (num p) a)));
    }

    pub left_whole : (w : ℕ) (u : List ℕ) → w ≡ letter_width_of p t → Row u w 0 → (tag p q ≡ 31 → ⊥) → Left p t (leaves p t q v) u u
    unfolding leaves implies
    left_whole w u e r ne = record { long = refl; row = rw e at r; has = λ y l. rw (ne_eqb (tag p q) 31 ne) (sym (and_true (member u (letter_width_of p t) 0 y))) }

  -- a set by a digit has its room
  pub digit_room : (i : ℕ) (letters : List ℕ) → LetterSets p t letters → (w set h : ℕ) → w ≡ letter_width_of p t → set ≡ digit_set p (i + 1) h → i < max_arity → h < head_count p → Row letters w set
  unfolding digit_set allowed_set
  digit_room i letters sets w set h e at few low =
      let k : i + 1 ≤ 8 = omega arith in
      rw (e, at) (sets.room (digit_set p (i + 1) h) (omega (arith, mul-le-mul_right (head_count p) k)))

  -- one argument, head by head
  module _ (i n q : ℕ) where
    pub heads_first : (w : ℕ) (u : List ℕ) → w ≡ letter_width_of p t → Row u w 0 → Left p t (leaves_below p t i n q 0) u u
    unfolding leaves_below implies
    heads_first w u e r = record { long = refl; row = rw e at r; has = λ y l. rw (le-ltb (head_of p t i y) 0 (omega arith)) (sym (and_true (member u (letter_width_of p t) 0 y))) }

    pub heads_kept : (h : ℕ) (u u' : List ℕ) → leaves_head p t n q h ≡ true → Left p t (leaves_below p t i n q h) u u' → Left p t (leaves_below p t i n q (h + 1)) u u'
    unfolding leaves_below leaves_argument
    heads_kept h u u' e f = record {
      long = f.long;
      row = f.row;
      has = λ y l. f.has y l ∙ ap (λ x. member u (letter_width_of p t) 0 y && x) (below_kept (leaves_head p t n q) h (head_of p t i y) e);
    }

    -- heads that the subpattern leaves are passed over
    pub heads_upto : (k h : ℕ) (u u' : List ℕ) → ((x : ℕ) → h ≤ x → x < h + k → leaves_head p t n q x ≡ true) → Left p t (leaves_below p t i n q h) u u' → Left p t (leaves_below p t i n q (h + k)) u u'
    heads_upto zero h u u' leaves f = let e : h + 0 ≡ h = omega arith in rw e f
    heads_upto (suc k) h u u' leaves f =
        let e : h + suc k ≡ h + 1 + k = omega arith in
        rw e (heads_upto k (h + 1) u u' (λ x a b. leaves x (omega arith) (omega arith)) (heads_kept h u u' (leaves h (omega arith) (omega arith)) f))

    pub heads_lost : (letters : List ℕ) → LetterSets p t letters → (w set h : ℕ) (u u₁ u₂ : List ℕ) → w ≡ letter_width_of p t → set ≡ digit_set p (i + 1) h → i < max_arity → h < head_count p → leaves_head p t n q h ≡ false → Left p t (leaves_below p t i n q h) u u₁ → SetIs w 0 (λ y. member u₁ w 0 y && not (member letters w set y)) u₁ u₂ → Left p t (leaves_below p t i n q (h + 1)) u u₂
    unfolding leaves_below leaves_argument head_of
    heads_lost letters sets w set h u u₁ u₂ e at few low lost f is = record {
      long = is.long ∙ f.long;
      row = row_kept (letter_width_of p t) 0 u₁ u₂ f.row is.long;
      has = λ y l.
          let here : member u₂ (letter_width_of p t) 0 y ≡ (member u₁ (letter_width_of p t) 0 y && not (member letters (letter_width_of p t) (digit_set p (i + 1) h) y)) = rw (e, at) at (is.here y (rw e (letter_inside p t y l))) in
          here ∙ (rw (f.has y l, sets.digit (i + 1) h y (omega arith) low l)
          (sym (and_joined (member u (letter_width_of p t) 0 y) (leaves_below p t i n q h y) (not (eqb (head_of p t i y) h))) ∙
          ap (λ x. member u (letter_width_of p t) 0 y && x) (below_lost (leaves_head p t n q) h (head_of p t i y) lost)));
    }

    unheaded : ((v : ℕ) → row_head_of p v < head_count p) → (d : ℕ) → head_count p ≤ d → leaves_head p t n q d ≡ true
    unfolding leaves_head has_head
    unheaded low d k = implies_intro (has_head p t n d) _ (λ z. let (w, m, e) = (some_of_iff t.flow n (λ w. eqb (row_head_of p w) d) (λ w. (λ z. z, λ z. z))).0 z in absurd (omega (arith, low w, eqb-true (row_head_of p w) d e)))

    pub heads_over : ((v : ℕ) → row_head_of p v < head_count p) → (h : ℕ) (u u' : List ℕ) → head_count p ≤ h → Left p t (leaves_below p t i n q h) u u' → Left p t (leaves_argument p t i n q) u u'
    unfolding leaves_below leaves_argument
    heads_over low h u u' all f = record {
      long = f.long;
      row = f.row;
      has = λ y l. f.has y l ∙ ap (λ x. member u (letter_width_of p t) 0 y && x) (below_all (leaves_head p t n q) h (head_of p t i y) (λ k. unheaded low (head_of p t i y) (omega arith)));
    }

    -- a name bound or any value leaves every head
    pub heads_any : (w : ℕ) (u : List ℕ) → w ≡ letter_width_of p t → Row u w 0 → (tag p q ≡ 31 → ⊥) → (tag p q ≡ 33 → ⊥) → Left p t (leaves_argument p t i n q) u u
    unfolding leaves_argument leaves_head has_head does_head_fit does_value_fit may_match implies
    heads_any w u e r made held = record {
      long = refl;
      row = rw e at r;
      has = λ y l.
          let d = head_of p t i y in
          let z : leaves_head p t n q d ≡ true = implies_intro (has_head p t n d) _ (λ x.
          let (w, m, f) = (some_of_iff t.flow n (λ w. eqb (row_head_of p w) d) (λ w. (λ z. z, λ z. z))).0 x in
          (some_of_iff t.flow n (λ w. eqb (row_head_of p w) d && may_match p t (max_depth - 1) q w) (λ w. (λ z. z, λ z. z))).1
          (w, m, and_intro (eqb (row_head_of p w) d) _ f (rw (ne_eqb (tag p q) 31 made, may_match, ne_eqb (tag p q) 33 held)))) in
          rw z (sym (and_true (member u (letter_width_of p t) 0 y)));
    }

-- the numbers of sets, as the code has them
pub digit_number : (ws : List ℕ) (s : Sizes) (i h n : ℕ) → n ≡ i * (s.constructors + 2) + h → n ≡ digit_set (program ws s) i h
unfolding digit_set head_count program
digit_number ws s i h n e = e

pub head_below : (ws : List ℕ) (s : Sizes) (h : ℕ) → h < s.constructors + 2 → h < head_count (program ws s)
unfolding head_count program
head_below ws s h l = l

pub heads_above : (ws : List ℕ) (s : Sizes) (h : ℕ) → s.constructors + 2 ≤ h → head_count (program ws s) ≤ h
unfolding head_count program
heads_above ws s h l = l
