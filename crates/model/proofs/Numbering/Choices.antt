-- The letters of a value of the tables (`letters_where` of specs/Counters.antt): which they are, that they ascend, and how
-- many there are.
use Prim.Native.Nat.{ℕ, zero, suc, ◌+◌, ◌-◌, ◌*◌, ◌≤◌, ◌<◌}
use native.Mathlib.Decide.{dec_lt}
use native.Mathlib.Omega.{arith}
use mathlib.Core.Path.{◌≡◌, refl, sym, ◌∙◌, ap, subst}
use mathlib.Core.Bool.{Bool, true, false, ◌&&◌}
use mathlib.Core.Logic.{inl, inr, ⊎_elim}
use mathlib.Core.List.Memᴰ
use mathlib.Core.List.{List, [], ◌∷◌, ◌++◌, map, Memᴰ}
use lib.ListN.{length, get_or, length-append, length-map}
use lib.Dec.{eqb}
use borrow.Author.Tests.{eqb-true, eq-eqb}
use Rattle.model.specs.Index.{gather_between, gather, only, from_all}
use Rattle.model.specs.Keys.{Key}
use Rattle.model.specs.Rows.{Program, tag, num, arity}
use Rattle.model.specs.Letters.{head, head_count, row_shape, row_head_of, Letter}
use Rattle.model.specs.Tables.{Tables, some_of}
use Rattle.model.specs.Closed.{argument}
use Rattle.model.specs.Counters.{name_heads, heads_each, choices, letters_where, letters_allowed, choice_count, allowed_count, any_argument}
use Rattle.model.specs.Demands.{Below}
use Rattle.model.specs.Wanted.{Member}
use Rattle.model.proofs.Logic.{true_false, test, and_intro, and_left, and_right}
use Rattle.model.proofs.Index.{gather_end, gather_turn, gather_intro, gather_elim, only_intro, only_elim, from_all_intro, from_all_elim}
use Rattle.model.proofs.Keys.{Ascends}
use Rattle.model.proofs.Exact.Members.{some_of_iff}

-- one element of each list, from the left
abbrev pub Chosen : List ℕ → List (List ℕ) → Type 0
Chosen [] [] = Unit {0}
Chosen [] (xs ∷ xss) = ⊥
Chosen (h ∷ hs) [] = ⊥
Chosen (h ∷ hs) (xs ∷ xss) = Memᴰ h xs × Chosen hs xss

pub chosen_in : (hs : List ℕ) (xss : List (List ℕ)) → Chosen hs xss → Memᴰ hs (choices xss)
unfolding choices
chosen_in [] [] c = Memᴰ.head refl
chosen_in [] (xs ∷ xss) c = absurd c
chosen_in (h ∷ hs) [] c = absurd c
chosen_in (h ∷ hs) (xs ∷ xss) c =
    from_all_intro xs h (λ x. map (λ ys. x ∷ ys) (choices xss)) (h ∷ hs) c.0 (Memᴰ.map (λ ys. h ∷ ys) (chosen_in hs xss c.1))

pub chosen_of : (hs : List ℕ) (xss : List (List ℕ)) → Memᴰ hs (choices xss) → Chosen hs xss
unfolding choices
chosen_of hs [] m = subst (λ z. Chosen z []) (sym (Memᴰ.eq_of_singleton m)) tt
chosen_of hs (xs ∷ xss) m =
    let (x, n, k) = from_all_elim xs (λ x. map (λ ys. x ∷ ys) (choices xss)) hs m in
    let (ys, o, e) = Memᴰ.of_map (λ ys. x ∷ ys) (choices xss) k in
    subst (λ z. Chosen z (xs ∷ xss)) e (n, chosen_of ys xss o)

-- of lists that are told by their number
pub chosen_gather : (a i : ℕ) (g : ℕ → List ℕ) (hs : List ℕ) → length hs ≡ a → ((j : ℕ) → j < a → Memᴰ (get_or hs j 0) (g (i + j))) → Chosen hs (gather_between a i (λ k. g k ∷ []))
unfolding gather_between
chosen_gather zero i g [] l h = tt
chosen_gather zero i g (x ∷ hs) l h = absurd (omega arith)
chosen_gather (suc a) i g [] l h = absurd (omega arith)
chosen_gather (suc a) i g (x ∷ hs) l h =
    let z : i + 0 ≡ i = omega arith in (
      subst (λ k. Memᴰ x (g k)) z (h 0 (omega arith)),
      chosen_gather a (i + 1) g hs (omega arith) (λ j b. subst (λ k. Memᴰ (get_or hs j 0) (g k)) (shift i j) (h (suc j) (omega arith))),
    )
  where
    shift : (i j : ℕ) → i + suc j ≡ i + 1 + j
    shift i j = omega arith

pub gather_chosen : (a i : ℕ) (g : ℕ → List ℕ) (hs : List ℕ) → Chosen hs (gather_between a i (λ k. g k ∷ [])) → (length hs ≡ a) × ((j : ℕ) → j < a → Memᴰ (get_or hs j 0) (g (i + j)))
unfolding gather_between
gather_chosen zero i g [] c = (refl, λ j b. absurd (omega arith))
gather_chosen zero i g (x ∷ hs) c = absurd c
gather_chosen (suc a) i g [] c = absurd c
gather_chosen (suc a) i g (x ∷ hs) c =
    let (l, h) = gather_chosen a (i + 1) g hs c.1 in
    (omega arith, at l h)
  where
    shift : (j : ℕ) → i + 1 + j ≡ i + suc j
    shift j = omega arith

    here : i ≡ i + 0
    here = omega arith

    at : length hs ≡ a → ((j : ℕ) → j < a → Memᴰ (get_or hs j 0) (g (i + 1 + j))) → (j : ℕ) → j < suc a → Memᴰ (get_or (x ∷ hs) j 0) (g (i + j))
    at l h zero b = subst (λ k. Memᴰ x (g k)) here c.0
    at l h (suc j) b = subst (λ k. Memᴰ (get_or hs j 0) (g k)) (shift j) (h j (omega arith))

-- so many there are
from_all_length : (xs : List ℕ) (f : ℕ → List (List ℕ)) (n : ℕ) → ((x : ℕ) → length (f x) ≡ n) → length (from_all xs f) ≡ length xs * n
unfolding from_all
from_all_length [] f n h = omega arith
from_all_length (x ∷ xs) f n h =
    let r = from_all_length xs f n h in
    let e = h x in
    let l = length-append (f x) (from_all xs f) in
    omega arith

pub choices_length : (xss : List (List ℕ)) → length (choices xss) ≡ choice_count xss
unfolding choices choice_count
choices_length [] = refl
choices_length (xs ∷ xss) =
    from_all_length xs (λ x. map (λ ys. x ∷ ys) (choices xss)) (choice_count xss) (λ x. length-map (choices xss) (λ ys. x ∷ ys) ∙ choices_length xss)

-- numbers that rise
abbrev pub Rises : List ℕ → Type 0
Rises [] = Unit {0}
Rises (x ∷ xs) = ((z : ℕ) → Memᴰ z xs → x < z) × Rises xs

-- each of some lists
abbrev pub AllRise : List (List ℕ) → Type 0
AllRise [] = Unit {0}
AllRise (xs ∷ xss) = Rises xs × AllRise xss

-- keys in order, and behind them others
append_ascends : (xs ys : List Key) → Ascends xs → Ascends ys → ((a b : Key) → Memᴰ a xs → Memᴰ b ys → Below a b) → Ascends (xs ++ ys)
append_ascends [] ys h k below = k
append_ascends (x ∷ xs) ys h k below = (
  λ z m. ⊎_elim (λ n. h.0 z n) (λ n. below x z (Memᴰ.head refl) n) (Memᴰ.append_cases xs m),
  append_ascends xs ys h.1 k (λ a b m n. below a b (Memᴰ.tail m) n),
)

-- one number in front of each
pub front_ascends : (x : ℕ) (ks : List Key) → Ascends ks → Ascends (map (λ k. x ∷ k) ks)
front_ascends x [] h = tt
front_ascends x (k ∷ ks) h = (
  λ z m. let (y, n, e) = Memᴰ.of_map (λ k. x ∷ k) ks m in subst (Below (x ∷ k)) e (inr (refl, h.0 y n)),
  front_ascends x ks h.1,
)

from_all_ascends : (xs : List ℕ) (ks : List Key) → Rises xs → Ascends ks → Ascends (from_all xs (λ x. map (λ k. x ∷ k) ks))
unfolding from_all
from_all_ascends [] ks r h = tt
from_all_ascends (x ∷ xs) ks r h =
    append_ascends (map (λ k. x ∷ k) ks) (from_all xs (λ y. map (λ k. y ∷ k) ks)) (front_ascends x ks h) (from_all_ascends xs ks r.1 h)
    (λ a b m n.
    let (u, _, e) = Memᴰ.of_map (λ k. x ∷ k) ks m in
    let (y, there, o) = from_all_elim xs (λ y. map (λ k. y ∷ k) ks) b n in
    let (w, _, f) = Memᴰ.of_map (λ k. y ∷ k) ks o in
    subst (λ z. Below z b) e (subst (Below (x ∷ u)) f (inl (r.0 y there))))

pub choices_ascend : (xss : List (List ℕ)) → AllRise xss → Ascends (choices xss)
unfolding choices
choices_ascend [] h = (λ z m. absurd (Memᴰ.not-nil m), tt)
choices_ascend (xs ∷ xss) h = from_all_ascends xs (choices xss) h.0 (choices_ascend xss h.1)

-- the numbers that pass
pub passing_rise : (n i e : ℕ) (f : ℕ → Bool) → e ≤ i + n → Rises (gather i e (λ h. only (f h) h))
unfolding only
passing_rise zero i e f l = rw (gather_end i e (λ h. only (f h) h) (omega arith)) tt
passing_rise (suc n) i e f l = elim (dec_lt i e) [
  | no z ↦ rw (gather_end i e (λ h. only (f h) h) (omega arith)) tt
  | yes z ↦
      let g : ℕ → List ℕ = λ h. only (f h) h in
      let rest = passing_rise n (i + 1) e f (omega arith) in
      subst Rises (sym (gather_turn i e g z))
      (test (f i)
      (λ t. rw (t, only) (λ y m. let (k, w, o) = gather_elim (i + 1) e g y m in let q = (only_elim (f k) k y o).1 in omega arith, rest))
      (λ t. rw (t, only) rest))
]

module _ (p : Program) (t : Tables) where
  -- the head of a value that a name holds, and which heads there are
  pub name_has : (passes : ℕ → Bool) (n w : ℕ) → row_head_of p w < head_count p → Member t.flow n w → passes w ≡ true → Memᴰ (row_head_of p w) (name_heads p t passes n)
  unfolding name_heads
  name_has passes n w low m h =
      gather_intro 0 (head_count p) (row_head_of p w) (λ k. only (some_of t.flow n (λ u. eqb (row_head_of p u) k && passes u)) k) (row_head_of p w) (omega arith) low
      (only_intro (some_of t.flow n (λ u. eqb (row_head_of p u) (row_head_of p w) && passes u)) (row_head_of p w)
      ((some_of_iff t.flow n (λ u. eqb (row_head_of p u) (row_head_of p w) && passes u) (λ u. (λ e. e, λ e. e))).1
      (w, m, and_intro (eqb (row_head_of p w) (row_head_of p w)) (passes w) (eq-eqb (row_head_of p w) (row_head_of p w) refl) h)))

  pub head_of_name : (passes : ℕ → Bool) (n h : ℕ) → Memᴰ h (name_heads p t passes n) → (h < head_count p) × ((w : ℕ) × (Member t.flow n w × ((row_head_of p w ≡ h) × (passes w ≡ true))))
  unfolding name_heads
  head_of_name passes n h m =
      let test : ℕ → ℕ → Bool = λ k u. eqb (row_head_of p u) k && passes u in
      let (k, w, o) = gather_elim 0 (head_count p) (λ k. only (some_of t.flow n (test k)) k) h m in
      let (e, same) = only_elim (some_of t.flow n (test k)) k h o in
      let (u, member, both) = (some_of_iff t.flow n (test k) (λ u. (λ z. z, λ z. z))).0 e in
      let head = eqb-true (row_head_of p u) k (and_left (eqb (row_head_of p u) k) (passes u) both) ∙ sym same in
      (omega arith, (u, (member, (head, and_right (eqb (row_head_of p u) k) (passes u) both))))

  pub name_rises : (passes : ℕ → Bool) (n : ℕ) → Rises (name_heads p t passes n)
  unfolding name_heads
  name_rises passes n = passing_rise (head_count p) 0 (head_count p) _ (omega arith)

  -- the lists of a value's arguments
  all_rise_in : (n i : ℕ) (g : ℕ → List ℕ) → ((k : ℕ) → Rises (g k)) → AllRise (gather_between n i (λ k. g k ∷ []))
  unfolding gather_between
  all_rise_in zero i g h = tt
  all_rise_in (suc n) i g h = (h i, all_rise_in n (i + 1) g h)

  pub each_rises : (passes : ℕ → ℕ → Bool) (v : ℕ) → AllRise (heads_each p t passes v)
  unfolding heads_each gather
  each_rises passes v = all_rise_in _ 0 (λ i. name_heads p t (passes i) (argument p v i)) (λ k. name_rises (passes k) (argument p v k))

  -- the head of a value that is built is its constructor
  pub built_head : (v : ℕ) → tag p v ≡ 2 → row_head_of p v ≡ num p (v + 1)
  unfolding row_head_of row_shape head
  built_head v e = rw (eq-eqb (tag p v) 2 e, row_shape)

  -- the letters of a value that is built, and of any other
  pub letters_built : (passes : ℕ → ℕ → Bool) (v : ℕ) → tag p v ≡ 2 → letters_where p t passes v ≡ map (λ hs. row_head_of p v ∷ hs) (choices (heads_each p t passes v))
  unfolding letters_where
  letters_built passes v e = rw (eq-eqb (tag p v) 2 e, letters_where)

  pub letters_plain : (passes : ℕ → ℕ → Bool) (v : ℕ) → eqb (tag p v) 2 ≡ false → letters_where p t passes v ≡ (row_head_of p v ∷ []) ∷ []
  unfolding letters_where
  letters_plain passes v e = rw (e, letters_where)

  -- a value without arguments has one letter
  pub letters_bare : (passes : ℕ → ℕ → Bool) (v : ℕ) → (tag p v ≡ 2 → arity p (num p (v + 1)) ≡ 0) → letters_where p t passes v ≡ (row_head_of p v ∷ []) ∷ []
  unfolding heads_each gather gather_between choices
  letters_bare passes v h =
      test (eqb (tag p v) 2)
      (λ e. let b = eqb-true (tag p v) 2 e in letters_built passes v b ∙ rw (h b))
      (λ e. letters_plain passes v e)

  -- what a letter of a value is: its head, and a head of each argument
  pub record LetterOf (passes : ℕ → ℕ → Bool) (v : ℕ) (l : Letter) : Type 0 where
    pub heads : List ℕ
    pub is : row_head_of p v ∷ heads ≡ l
    pub built : tag p v ≡ 2 → Chosen heads (heads_each p t passes v)
    pub plain : eqb (tag p v) 2 ≡ false → heads ≡ []

  pub letter_from : (passes : ℕ → ℕ → Bool) (v : ℕ) (l : Letter) → Memᴰ l (letters_where p t passes v) → LetterOf passes v l
  letter_from passes v l m =
      test (eqb (tag p v) 2)
      (λ e.
      let (hs, n, same) = Memᴰ.of_map (λ hs. row_head_of p v ∷ hs) (choices (heads_each p t passes v)) (rw (letters_built passes v (eqb-true (tag p v) 2 e)) at m) in
      record {
        heads = hs;
        is = same;
        built = λ z. chosen_of hs (heads_each p t passes v) n;
        plain = λ z. true_false e z;
      })
      (λ e.
      let same = Memᴰ.eq_of_singleton (rw (letters_plain passes v e) at m) in
      record {
        heads = [];
        is = sym same;
        built = λ z. true_false (eq-eqb (tag p v) 2 z) e;
        plain = λ z. refl;
      })

  -- what passes is allowed
  all_chosen : (passes : ℕ → ℕ → Bool) (v : ℕ) (hs : List ℕ) → Chosen hs (heads_each p t passes v) → Chosen hs (heads_each p t any_argument v)
  unfolding heads_each gather
  all_chosen passes v hs c =
      let a : ℕ = arity p (num p (v + 1)) - 0 in
      let (l, each) = gather_chosen a 0 (λ i. name_heads p t (passes i) (argument p v i)) hs c in
      chosen_gather a 0 (λ i. name_heads p t (any_argument i) (argument p v i)) hs l
      (λ j b.
      let (low, (w, (m, (e, _)))) = head_of_name (passes (0 + j)) (argument p v (0 + j)) (get_or hs j 0) (each j b) in
      subst (λ h. Memᴰ h (name_heads p t (any_argument (0 + j)) (argument p v (0 + j)))) e
      (name_has (any_argument (0 + j)) (argument p v (0 + j)) w (omega arith) m refl))

  pub where_allowed : (passes : ℕ → ℕ → Bool) (v : ℕ) (l : Letter) → Memᴰ l (letters_where p t passes v) → Memᴰ l (letters_allowed p t v)
  unfolding letters_allowed
  where_allowed passes v l m =
      let f = letter_from passes v l m in
      test (eqb (tag p v) 2)
      (λ e.
      let b = eqb-true (tag p v) 2 e in
      rw (letters_built any_argument v b)
      (subst (λ k. Memᴰ k (map (λ hs. row_head_of p v ∷ hs) (choices (heads_each p t any_argument v)))) f.is
      (Memᴰ.map (λ hs. row_head_of p v ∷ hs) (chosen_in f.heads (heads_each p t any_argument v) (all_chosen passes v f.heads (f.built b))))))
      (λ e. rw (letters_plain any_argument v e) (Memᴰ.head (sym f.is ∙ ap (λ hs. row_head_of p v ∷ hs) (f.plain e))))

  pub letters_ascend : (passes : ℕ → ℕ → Bool) (v : ℕ) → Ascends (letters_where p t passes v)
  letters_ascend passes v =
      test (eqb (tag p v) 2)
      (λ e. rw (letters_built passes v (eqb-true (tag p v) 2 e)) (front_ascends (row_head_of p v) (choices (heads_each p t passes v)) (choices_ascend (heads_each p t passes v) (each_rises passes v))))
      (λ e. rw (letters_plain passes v e) (λ z m. absurd (Memᴰ.not-nil m), tt))

  pub allowed_length : (v : ℕ) → length (letters_allowed p t v) ≡ allowed_count p t v
  unfolding letters_allowed allowed_count
  allowed_length v =
      test (eqb (tag p v) 2)
      (λ e. rw (letters_built any_argument v (eqb-true (tag p v) 2 e), e, allowed_count) (length-map (choices (heads_each p t any_argument v)) (λ hs. row_head_of p v ∷ hs) ∙ choices_length (heads_each p t any_argument v)))
      (λ e. rw (letters_plain any_argument v e, e, allowed_count))
