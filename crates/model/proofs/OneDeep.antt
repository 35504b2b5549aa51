-- The promise of specs/OneDeep.antt: where no message has arguments the letters, the counters and the rules are those of document 01.
use Prim.Native.Nat.{ℕ, zero, suc, ◌+◌, ◌-◌, ◌*◌, ◌/◌, ◌%◌, ◌≤◌, ◌<◌}
use native.Mathlib.Decide.{dec_lt, ℕ_discrete}
use native.Mathlib.Nat.{mul-le-mul_right, div-add-mod', mod-lt}
use native.Mathlib.Omega.{arith}
use mathlib.Core.Path.{◌≡◌, refl, sym, ◌∙◌, ap, subst}
use mathlib.Core.Bool.{Bool, true, false, ◌&&◌}
use mathlib.Core.Logic.{inl, inr, ⊎_elim}
use mathlib.Core.List.Memᴰ
use mathlib.Core.List.{List, [], ◌∷◌, ◌++◌, map, Memᴰ}
use lib.ListN.{length}
use lib.Dec.{eqb}
use borrow.Author.Tests.{eqb-true, eq-eqb}
use Rattle.model.specs.Index.{gather, count, only, from_all}
use Rattle.model.specs.Keys.{Key, same_key, ascending, position}
use Rattle.model.specs.Words.{Columns, left, right, words}
use Rattle.model.specs.Message.{sizes}
use Rattle.model.specs.Rows.{Program, size, tag}
use Rattle.model.specs.Heads.{Head, head_at, gives, builds, makes, calls, sends, spawns, selfs, cases, receives, no_head, branch_body_of, is_class_of}
use Rattle.model.specs.Letters.{head_count, row_head_of, Letter}
use Rattle.model.specs.Tables.{Tables, State, onward, state_at, state_index_of}
use Rattle.model.specs.Closed.{may_take}
use Rattle.model.specs.Counters.{letters_allowed, any_argument, letter_keys, letter_count_of, letter_index}
use Rattle.model.specs.Rules.{Rule, rule, reads, puts, from_each, argument_fits, letters_read, state_rules_of, rules}
use Rattle.model.specs.Listing.{listing, system_words}
use Rattle.model.specs.Demands.{Below}
use Rattle.model.specs.Wanted.{Member, Closed, ListedState, send_mail, by_state}
use Rattle.model.specs.Wanted.{mail as wanted-mail}
use Rattle.model.specs.Verify.{message}
use Rattle.model.specs.Refusals.{rows_passed, names_passed, scopes_passed, bads_passed, entries_passed, closed_passed, mailed_passed}
use Rattle.model.specs.OneDeep.{pair_number, pair_numbers, mails_pair, pair_count, pair_index, from_heads, head_of_some, rules_by_head, one_deep_words, WithoutArguments, ListingsKept}
use Rattle.model.proofs.Logic.{test, and_left, and_right, and_intro}
use Rattle.model.proofs.Index.{any_intro, any_elim, count_end, count_hit, count_miss, gather_end, gather_turn, gather_intro, gather_elim, only_intro, only_elim}
use Rattle.model.proofs.Keys.{Ascends, ascending_has, ascending_from, ascending_ascends, same_key_iff, below_trans, below_irrefl}
use Rattle.model.proofs.Heads.{class_tag}
use Rattle.model.proofs.Rows.{tag_inside}
use Rattle.model.proofs.Exact.Members.{some_of_iff}
use Rattle.model.proofs.Numbering.Letters.{keys_ascend, key_of, key_from}
use Rattle.model.proofs.Numbering.Counters.{row_head_low}
use Rattle.model.proofs.Numbering.Choices.{letters_bare}
use Rattle.model.proofs.RuleAt.{from_each_intro}
use Rattle.model.proofs.Bounded.Shaped.{from_each_elim}
use Rattle.model.proofs.Bounded.Exact.{message_built}

-- Lists

-- keys in order that have the same members are the same
ascends_unique : (xs ys : List Key) → Ascends xs → Ascends ys → ((z : Key) → Memᴰ z xs → Memᴰ z ys) → ((z : Key) → Memᴰ z ys → Memᴰ z xs) → xs ≡ ys
ascends_unique [] [] a b f g = refl
ascends_unique [] (y ∷ ys) a b f g = absurd (Memᴰ.not-nil (g y (Memᴰ.head refl)))
ascends_unique (x ∷ xs) [] a b f g = absurd (Memᴰ.not-nil (f x (Memᴰ.head refl)))
ascends_unique (x ∷ xs) (y ∷ ys) a b f g =
    let e = first in
    let r = ascends_unique xs ys a.1 b.1
    (λ z m. behind y ys z (subst (λ u. Below u z) e (a.0 z m)) (f z (Memᴰ.tail m)))
    (λ z m. behind x xs z (subst (λ u. Below u z) (sym e) (b.0 z m)) (g z (Memᴰ.tail m))) in
    cc
  where
    behind : (u : Key) (us : List Key) (z : Key) → Below u z → Memᴰ z (u ∷ us) → Memᴰ z us
    behind u us z l m = ⊎_elim (λ e. absurd (below_irrefl u (subst (Below u) e l))) (λ n. n) (Memᴰ.cases_cons m)

    first : x ≡ y
    first =
        ⊎_elim (λ e. e)
        (λ (m : Memᴰ x ys). ⊎_elim (λ e. sym e) (λ (n : Memᴰ y xs). absurd (below_irrefl x (below_trans x y x (a.0 y n) (b.0 x m)))) (Memᴰ.cases_cons (g y (Memᴰ.head refl))))
        (Memᴰ.cases_cons (f x (Memᴰ.head refl)))

gather_same : {A : Type 0} (n i e : ℕ) (f g : ℕ → List A) → e ≤ i + n → ((k : ℕ) → i ≤ k → k < e → f k ≡ g k) → gather i e f ≡ gather i e g
gather_same zero i e f g l h = gather_end i e f (omega arith) ∙ sym (gather_end i e g (omega arith))
gather_same (suc n) i e f g l h = elim (dec_lt i e) [
  | no z ↦ gather_end i e f (omega arith) ∙ sym (gather_end i e g (omega arith))
  | yes z ↦
      let a = h i (omega arith) z in
      let b = gather_same n (i + 1) e f g (omega arith) (λ k lo hi. h k (omega arith) hi) in
      gather_turn i e f z ∙ (ap (λ u. u ++ gather (i + 1) e f) a ∙ (ap (λ u. g i ++ u) b ∙ sym (gather_turn i e g z)))
]

from_each_same : {A : Type 0} (c : Columns) (a : ℕ) (f g : ℕ → List A) → ((v : ℕ) → Member c a v → f v ≡ g v) → from_each c a f ≡ from_each c a g
unfolding from_each
from_each_same c a f g h =
    gather_same c.size 0 c.size _ _ (omega arith)
    (λ i lo hi. test (eqb (left c i) a)
    (λ e. rw e (h (right c i) (record { at = i; below = hi; first = eqb-true (left c i) a e; second = refl })))
    (λ e. rw e))

from_all_same : {A B : Type 0} (bs : List B) (f g : B → List A) → ((b : B) → f b ≡ g b) → from_all bs f ≡ from_all bs g
unfolding from_all
from_all_same [] f g h = refl
from_all_same (b ∷ bs) f g h = ap (λ u. u ++ from_all bs f) (h b) ∙ ap (λ u. g b ++ u) (from_all_same bs f g h)

-- The numbers that pass, each as a key
module _ (f : ℕ → Bool) (key : ℕ → Key) (rises : (x y : ℕ) → x < y → Below (key x) (key y)) where
  abbrev passing : ℕ → List Key
  passing x = only (f x) (key x)

  passing_ascends : (n i e : ℕ) → e ≤ i + n → Ascends (gather i e passing)
  unfolding only
  passing_ascends zero i e l = rw (gather_end i e passing (omega arith)) tt
  passing_ascends (suc n) i e l = elim (dec_lt i e) [
    | no z ↦ rw (gather_end i e passing (omega arith)) tt
    | yes z ↦
        let rest = passing_ascends n (i + 1) e (omega arith) in
        subst Ascends (sym (gather_turn i e passing z))
        (test (f i)
        (λ t. rw (t, only)
        (λ y m. let (k, w, o) = gather_elim (i + 1) e passing y m in subst (Below (key i)) (sym (only_elim (f k) (key k) y o).1) (rises i k (omega arith)), rest))
        (λ t. rw (t, only) rest))
  ]

  passing_length : (n i e : ℕ) → e ≤ i + n → length (gather i e passing) ≡ count i e f
  unfolding only
  passing_length zero i e l = rw (gather_end i e passing (omega arith)) (sym (count_end i e f (omega arith)))
  passing_length (suc n) i e l = elim (dec_lt i e) [
    | no z ↦ rw (gather_end i e passing (omega arith)) (sym (count_end i e f (omega arith)))
    | yes z ↦
        let r = passing_length n (i + 1) e (omega arith) in
        ap length (gather_turn i e passing z) ∙
        test (f i)
        (λ t. rw (t, only) (omega (arith, count_hit i e f z t)))
        (λ t. rw (t, only) (omega (arith, count_miss i e f z t)))
  ]

  passing_position : (n i e m : ℕ) → e ≤ i + n → i ≤ m → m < e → f m ≡ true → position (key m) (gather i e passing) ≡ count i m f
  unfolding only position
  passing_position zero i e m l lo hi t = absurd (omega arith)
  passing_position (suc n) i e m l lo hi t =
      let z : i < e = omega arith in
      ap (position (key m)) (gather_turn i e passing z) ∙
      elim (ℕ_discrete i m) [
        | yes y ↦
            let here : f i ≡ true = ap f y ∙ t in
            let k : same_key (key m) (key i) ≡ true = (same_key_iff (key m) (key i)).1 (ap key (sym y)) in
            rw (here, only, k, position) (sym (count_end i m f (omega arith)))
        | no y ↦
            let r = passing_position n (i + 1) e m (omega arith) (omega arith) hi t in
            let b : i < m = omega arith in
            test (f i)
            (λ u. test (same_key (key m) (key i))
            (λ k. absurd (below_irrefl (key i) (subst (Below (key i)) ((same_key_iff (key m) (key i)).0 k) (rises i m b))))
            (λ k. rw (u, only, k, position) (omega (arith, count_hit i m f b u))))
            (λ u. rw (u, only) (r ∙ sym (count_miss i m f b u)))
      ]

-- what is gathered, each element changed
pub map_passing : {A B : Type 0} (n i e : ℕ) (f : ℕ → Bool) (g : ℕ → A) (h : A → B) → e ≤ i + n → map h (gather i e (λ x. only (f x) (g x))) ≡ gather i e (λ x. only (f x) (h (g x)))
unfolding only
map_passing zero i e f g h l = rw (gather_end i e (λ x. only (f x) (g x)) (omega arith)) (sym (gather_end i e (λ x. only (f x) (h (g x))) (omega arith)))
map_passing (suc n) i e f g h l = elim (dec_lt i e) [
  | no z ↦ rw (gather_end i e (λ x. only (f x) (g x)) (omega arith)) (sym (gather_end i e (λ x. only (f x) (h (g x))) (omega arith)))
  | yes z ↦
      let r = map_passing n (i + 1) e f g h (omega arith) in
      ap (map h) (gather_turn i e (λ x. only (f x) (g x)) z) ∙
      (test (f i)
      (λ t. rw (t, only) (ap (λ u. h (g i) ∷ u) r))
      (λ t. rw (t, only) r) ∙ sym (gather_turn i e (λ x. only (f x) (h (g x))) z))
]

-- Pairs as numbers

-- between the multiples of two classes there is room for a letter
key_room : (n a b : ℕ) → a < b → a * n + n ≤ b * n
key_room n a b h = omega (arith, mul-le-mul_right n h)

pair_told : (n a b a' b' : ℕ) → b < n → b' < n → a * n + b ≡ a' * n + b' → (a ≡ a') × (b ≡ b')
pair_told n a b a' b' h h' e = elim (dec_lt a a') [
  | yes z ↦ absurd (omega (arith, key_room n a a' z))
  | no z ↦ elim (dec_lt a' a) [
    | yes y ↦ absurd (omega (arith, key_room n a' a y))
    | no y ↦ let w : a ≡ a' = omega arith in let v = ap (λ x. x * n) w in (w, omega arith)
  ]
]

module _ (p : Program) where
  abbrev h : ℕ
  h = head_count p

  some_heads : 0 < h
  unfolding head_count
  some_heads = omega arith

  -- the pair of a number, and the number of a pair
  abbrev pair_key : ℕ → Key
  pair_key x = x / h ∷ x % h ∷ []

  apart : (x : ℕ) → x / h * h + x % h ≡ x
  apart x = div-add-mod' x h

  pair_key_is : (c k : ℕ) → k < h → pair_key (pair_number p c k) ≡ c ∷ k ∷ []
  unfolding pair_number
  pair_key_is c k b =
      let (u, v) = pair_told h ((c * h + k) / h) ((c * h + k) % h) c k (mod-lt (c * h + k) some_heads) b (apart (c * h + k)) in
      cc

  pair_rises : (x y : ℕ) → x < y → Below (pair_key x) (pair_key y)
  pair_rises x y l = elim (dec_lt (x / h) (y / h)) [
    | yes z ↦ inl z
    | no z ↦ elim (dec_lt (y / h) (x / h)) [
      | yes w ↦ absurd (omega (arith, key_room h (y / h) (x / h) w, apart x, apart y, mod-lt y {m = h} some_heads))
      | no w ↦
          let e : x / h ≡ y / h = omega arith in
          let f = ap (λ u. u * h) e in
          inr (e, inl (omega (arith, apart x, apart y)))
    ]
  ]

  pair_low : (c k : ℕ) → c ≤ size p → k < h → pair_number p c k < pair_numbers p
  unfolding pair_number pair_numbers
  pair_low c k b l = omega (arith, key_room h c (size p + 1) (omega arith))

-- Where no message has arguments
module _ (p : Program) (t : Tables) (low : (v : ℕ) → row_head_of p v < head_count p) (classes-low : (c v : ℕ) → Member t.mail c v → c ≤ size p) (bare : WithoutArguments p t) where
  -- a mail value's letter is its head
  allowed_bare : (c v : ℕ) → Member t.mail c v → letters_allowed p t v ≡ (row_head_of p v ∷ []) ∷ []
  unfolding letters_allowed
  allowed_bare c v m = letters_bare p t any_argument v (bare c v m)

  member_mails : (c v : ℕ) → Member t.mail c v → mails_pair p t (pair_number p c (row_head_of p v)) ≡ true
  unfolding mails_pair
  member_mails c v m =
      any_intro 0 t.mail.size m.at (λ i. eqb (pair_number p (left t.mail i) (row_head_of p (right t.mail i))) (pair_number p c (row_head_of p v)))
      (omega arith) m.below (eq-eqb (pair_number p (left t.mail m.at) (row_head_of p (right t.mail m.at))) (pair_number p c (row_head_of p v)) (rw (m.first, m.second)))

  -- the keys of letters are those of the pairs of mail
  keys_are : letter_keys p t ≡ gather 0 (pair_numbers p) (λ x. only (mails_pair p t x) (pair_key p x))
  unfolding mails_pair
  keys_are =
      let passing : ℕ → List Key = λ x. only (mails_pair p t x) (pair_key p x) in
      ascends_unique (letter_keys p t) (gather 0 (pair_numbers p) passing) (keys_ascend p t) (passing_ascends (mails_pair p t) (pair_key p) (pair_rises p) (pair_numbers p) 0 (pair_numbers p) (omega arith))
      (λ z m.
      let a = key_from p t z m in
      let letter = Memᴰ.eq_of_singleton (rw (allowed_bare a.class a.value a.mailed) at a.allows) in
      let x : ℕ = pair_number p a.class (row_head_of p a.value) in
      let is : z ≡ pair_key p x = sym a.same ∙ (ap (λ l. a.class ∷ l) letter ∙ sym (pair_key_is p a.class (row_head_of p a.value) (low a.value))) in
      subst (λ u. Memᴰ u (gather 0 (pair_numbers p) passing)) (sym is)
      (gather_intro 0 (pair_numbers p) x passing (pair_key p x) (omega arith) (pair_low p a.class (row_head_of p a.value) (classes-low a.class a.value a.mailed) (low a.value))
      (only_intro (mails_pair p t x) (pair_key p x) (member_mails a.class a.value a.mailed))))
      (λ z m.
      let (x, w, o) = gather_elim 0 (pair_numbers p) passing z m in
      let (passes, is) = only_elim (mails_pair p t x) (pair_key p x) z o in
      let (i, b, e) = any_elim 0 t.mail.size (λ i. eqb (pair_number p (left t.mail i) (row_head_of p (right t.mail i))) x) passes in
      let c : ℕ = left t.mail i in
      let v : ℕ = right t.mail i in
      let member : Member t.mail c v = record { at = i; below = b.1; first = refl; second = refl } in
      let n = eqb-true (pair_number p c (row_head_of p v)) x e in
      let same : c ∷ row_head_of p v ∷ [] ≡ z = sym (pair_key_is p c (row_head_of p v) (low v)) ∙ (ap (pair_key p) n ∙ sym is) in
      subst (λ u. Memᴰ u (letter_keys p t)) same
      (key_of p t c v (row_head_of p v ∷ []) member (rw (allowed_bare c v member) (Memᴰ.head refl))))

  count_is : letter_count_of p t ≡ pair_count p t
  unfolding letter_count_of pair_count
  count_is = ap length keys_are ∙ passing_length (mails_pair p t) (pair_key p) (pair_rises p) (pair_numbers p) 0 (pair_numbers p) (omega arith)

  index_is : (c v : ℕ) → Member t.mail c v → letter_index p t c (row_head_of p v ∷ []) ≡ pair_index p t c (row_head_of p v)
  unfolding letter_index pair_index
  index_is c v m =
      let k : ℕ = row_head_of p v in
      let x : ℕ = pair_number p c k in
      ap (λ y. t.states.size + y)
      (ap (λ ks. position (c ∷ k ∷ []) ks) keys_are ∙
      (ap (λ u. position u (gather 0 (pair_numbers p) (λ y. only (mails_pair p t y) (pair_key p y)))) (sym (pair_key_is p c k (low v))) ∙
      passing_position (mails_pair p t) (pair_key p) (pair_rises p) (pair_numbers p) 0 (pair_numbers p) x (omega arith) (omega arith) (pair_low p c k (classes-low c v m) (low v)) (member_mails c v m)))

  -- rules for letters, where each value that the list pairs with a has its head alone: as a list of letters and by heads
  module _ (c : Columns) (a : ℕ) (passes : ℕ → Bool) (letters-of : ℕ → List Letter) (are : (v : ℕ) → Member c a v → letters-of v ≡ only (passes v) (row_head_of p v ∷ [])) (F : Letter → Rule) (G : ℕ → Rule) (same : (v : ℕ) → Member c a v → F (row_head_of p v ∷ []) ≡ G (row_head_of p v)) where
    abbrev test_of : ℕ → Bool
    test_of = head_of_some p c a passes

    some_value : (k : ℕ) → test_of k ≡ true → (v : ℕ) × (Member c a v × ((row_head_of p v ≡ k) × (passes v ≡ true)))
    unfolding head_of_some
    some_value k e =
        let (v, m, both) = (some_of_iff c a (λ u. eqb (row_head_of p u) k && passes u) (λ u. (λ z. z, λ z. z))).0 e in
        (v, (m, (eqb-true (row_head_of p v) k (and_left (eqb (row_head_of p v) k) (passes v) both), and_right (eqb (row_head_of p v) k) (passes v) both)))

    value_some : (v : ℕ) → Member c a v → passes v ≡ true → test_of (row_head_of p v) ≡ true
    unfolding head_of_some
    value_some v m e =
        (some_of_iff c a (λ u. eqb (row_head_of p u) (row_head_of p v) && passes u) (λ u. (λ z. z, λ z. z))).1
        (v, m, and_intro (eqb (row_head_of p v) (row_head_of p v)) (passes v) (eq-eqb (row_head_of p v) (row_head_of p v) refl) e)

    -- the letters in order
    letters_are : ascending (from_each c a letters-of) ≡ gather 0 (head_count p) (λ k. only (test_of k) (k ∷ []))
    letters_are =
        let passing : ℕ → List Letter = λ k. only (test_of k) (k ∷ []) in
        ascends_unique _ (gather 0 (head_count p) passing) (ascending_ascends (from_each c a letters-of)) (passing_ascends test_of (λ k. k ∷ []) (λ x y l. inl l) (head_count p) 0 (head_count p) (omega arith))
        (λ z m.
        let (v, (member, o)) = from_each_elim c a letters-of z (ascending_from z (from_each c a letters-of) m) in
        let (e, is) = only_elim (passes v) (row_head_of p v ∷ []) z (rw (are v member) at o) in
        subst (λ u. Memᴰ u (gather 0 (head_count p) passing)) (sym is)
        (gather_intro 0 (head_count p) (row_head_of p v) passing (row_head_of p v ∷ []) (omega arith) (low v) (only_intro (test_of (row_head_of p v)) (row_head_of p v ∷ []) (value_some v member e))))
        (λ z m.
        let (k, w, o) = gather_elim 0 (head_count p) passing z m in
        let (e, is) = only_elim (test_of k) (k ∷ []) z o in
        let (v, (member, (head, passed))) = some_value k e in
        let letter : row_head_of p v ∷ [] ≡ z = ap (λ x. x ∷ []) head ∙ sym is in
        ascending_has z (from_each c a letters-of)
        (from_each_intro c a v letters-of z member (subst (λ u. Memᴰ u (letters-of v)) letter (rw (are v member) (only_intro (passes v) (row_head_of p v ∷ []) passed)))))

    rules_are : map F (ascending (from_each c a letters-of)) ≡ from_heads p test_of G
    unfolding from_heads only
    rules_are =
        ap (map F) letters_are ∙
        (map_passing (head_count p) 0 (head_count p) test_of (λ k. k ∷ []) F (omega arith) ∙
        gather_same (head_count p) 0 (head_count p) _ _ (omega arith)
        (λ k lo hi. test (test_of k)
        (λ e. let (v, (member, (head, passed))) = some_value k e in
        rw (e, only) (ap (λ x. x ∷ []) (ap (λ x. F (x ∷ [])) (sym head) ∙ (same v member ∙ ap G head))))
        (λ e. rw (e, only))))

  module _ (closed : Closed p t) (i : ℕ) (s : State) (listed : ListedState t s) where
    send_same : (n target msg r : ℕ) → head_at p s.location ≡ sends n target msg r → (d : ℕ) → Member t.flow target d →
        ◌≡◌ {A = List Rule} (elim (is_class_of p d) [ true ↦ map (λ l. rule i (state_index_of t (onward s r)) (puts (letter_index p t d l))) (ascending (from_each t.flow msg (letters_allowed p t))) | false ↦ [] ])
        (elim (is_class_of p d) [ true ↦ from_heads p (head_of_some p t.flow msg (λ v. true)) (λ k. rule i (state_index_of t (onward s r)) (puts (pair_index p t d k))) | false ↦ [] ])
    unfolding only
    send_same n target msg r e d member =
        test (is_class_of p d)
        (λ z.
        let mailed : (v : ℕ) → Member t.flow msg v → Member t.mail d v =
        λ v m. closed (wanted-mail d v) (by_state listed (send_mail n r d v (record { target = target; message = msg; sends_at = e; to_class = member; class = z; value = m }))) in
        rw z
        (rules_are t.flow msg (λ v. true) (letters_allowed p t) (λ v m. allowed_bare d v (mailed v m))
        (λ l. rule i (state_index_of t (onward s r)) (puts (letter_index p t d l)))
        (λ k. rule i (state_index_of t (onward s r)) (puts (pair_index p t d k)))
        (λ v m. ap (λ x. rule i (state_index_of t (onward s r)) (puts x)) (index_is d v (mailed v m)))))
        (λ z. rw z)

    receive_same : (q : ℕ) → map (λ l. rule i (state_index_of t (onward s (branch_body_of p q))) (reads (letter_index p t s.class l))) (ascending (from_each t.mail s.class (letters_read p t q))) ≡ from_heads p (head_of_some p t.mail s.class (may_take p t q)) (λ k. rule i (state_index_of t (onward s (branch_body_of p q))) (reads (pair_index p t s.class k)))
    unfolding letters_read only
    receive_same q =
        rules_are t.mail s.class (may_take p t q) (letters_read p t q)
        (λ v m. test (may_take p t q v)
        (λ e. rw (e, letters_read, only) (letters_bare p t (argument_fits p t q) v (bare s.class v m)))
        (λ e. rw (e, letters_read, only)))
        (λ l. rule i (state_index_of t (onward s (branch_body_of p q))) (reads (letter_index p t s.class l)))
        (λ k. rule i (state_index_of t (onward s (branch_body_of p q))) (reads (pair_index p t s.class k)))
        (λ v m. ap (λ x. rule i (state_index_of t (onward s (branch_body_of p q))) (reads x)) (index_is s.class v m))

    by_head : (h : Head) → head_at p s.location ≡ h → state_rules_of p t i s ≡ rules_by_head p t i s
    unfolding state_rules_of rules_by_head
    by_head (gives n) e = rw (e, rules_by_head) refl
    by_head (builds n k ns r) e = rw (e, rules_by_head) refl
    by_head (makes n r) e = rw (e, rules_by_head) refl
    by_head (calls call) e = rw (e, rules_by_head) refl
    by_head (sends n target msg r) e = rw (e, rules_by_head, state_rules_of) (from_each_same t.flow target _ _ (λ d m. send_same n target msg r e d m))
    by_head (spawns n function r) e = rw (e, rules_by_head) refl
    by_head (selfs n r) e = rw (e, rules_by_head) refl
    by_head (cases n qs) e = rw (e, rules_by_head) refl
    by_head (receives qs) e = rw (e, rules_by_head, state_rules_of) (from_all_same qs _ _ receive_same)
    by_head no_head e = rw (e, rules_by_head) refl

  words_are : Closed p t → system_words p t ≡ one_deep_words p t
  unfolding system_words one_deep_words rules
  words_are closed =
      let f : ℕ → List Rule = λ i. state_rules_of p t i (state_at t i) in
      let g : ℕ → List Rule = λ i. rules_by_head p t i (state_at t i) in
      let same : gather 0 t.states.size f ≡ gather 0 t.states.size g =
      gather_same t.states.size 0 t.states.size f g (omega arith)
      (λ i lo hi. by_head closed i (state_at t i) (record { at = i; below = hi; here = refl }) (head_at p (state_at t i).location) refl) in
      ap (λ n. listing t.states.size n (gather 0 t.states.size f)) count_is ∙ ap (listing t.states.size (pair_count p t)) same

pub listings_kept : ListingsKept
unfolding message
listings_kept most bytes (mailed_passed (closed_passed (entries_passed (bads_passed (scopes_passed (names_passed (rows_passed x fit) again bound) within) bads) flow mail states) closed) mailed) bare =
    let p = (message bytes).program in
    let t = (message bytes).tables in
    words_are p t (row_head_low p (message_built bytes fit))
    (λ c v m.
    let class : is_class_of p c ≡ true = subst (λ d. is_class_of p d ≡ true) m.first (mail.in_range m.at m.below).0 in
    ⊎_elim (λ (e : tag p c ≡ 6). let b = tag_inside (words bytes) (sizes (words bytes)) c (omega arith) in omega arith) (λ (e : c ≡ size p). omega arith) (class_tag p c class))
    bare closed
