-- Laws of lists that ascend: where a key has its place, and what stands there.
use Prim.Native.Nat.{ℕ, ◌+◌, ◌≤◌, ◌<◌}
use native.Mathlib.Decide.{dec_lt, ℕ_discrete}
use native.Mathlib.Omega.{arith}
use mathlib.Core.Path.{◌≡◌, refl, sym, ◌∙◌, ap}
use mathlib.Core.Bool.{true, false, not, ◌&&◌}
use mathlib.Core.List.{List, [], ◌∷◌}
use mathlib.Core.Logic.{◌⊎◌, inl, inr, ⊎_elim}
use lib.Dec.{ltb, eqb}
use lib.ListN.{get_or}
use borrow.Author.Tests.{eqb-true, eq-eqb, ne_eqb, le-ltb, not-false, not-true}
use Rattle.model.specs.Keys.{Key, below}
use Rattle.model.specs.Words.{Columns, left, right}
use Rattle.model.specs.Demands.{Below}
use Rattle.model.proofs.Logic.{true_false, test, and_left, and_right, and_none, or_none}
use Rattle.model.proofs.Index.{First, first_is, first_unique}
use Rattle.model.proofs.Keys.{below_iff, below_trans, below_irrefl}
use Rattle.lists.proofs.Halving.{Between, Falling, between_first}
use Rattle.lists.specs.Lists.{key_at, Ascending, place, is_entry_of, entry_index}

module _ (c : Columns) (ts : List ℕ) (k : Key) where
  -- what stands before an entry below the key is below it too
  pub under_before : Ascending c ts → Falling 0 c.size (λ i. below (key_at c ts i) k)
  under_before rising i j _ l h u = (below_iff (key_at c ts i) k).1 (below_trans (key_at c ts i) (key_at c ts j) k (rising i j l h) ((below_iff (key_at c ts j) k).0 u))

  pub between_place : (low high : ℕ) → Between 0 c.size (λ i. below (key_at c ts i) k) low high → high ≤ low → low ≡ place c ts k
  unfolding place
  between_place low high h e = between_first 0 c.size (λ i. below (key_at c ts i) k) low high h e

  -- what the place tells
  pub place_first : First 0 c.size (λ i. not (below (key_at c ts i) k)) (place c ts k)
  unfolding place
  place_first = first_is 0 c.size (λ i. not (below (key_at c ts i) k)) (omega arith)

  pub place_before : (i : ℕ) → i < place c ts k → below (key_at c ts i) k ≡ true
  place_before i h = not-false (below (key_at c ts i) k) (place_first.before i (omega arith) h)

  pub place_upto : place c ts k ≤ c.size
  place_upto = place_first.upto

  pub place_behind : Ascending c ts → (i : ℕ) → place c ts k ≤ i → i < c.size → below (key_at c ts i) k ≡ false
  place_behind rising i h l =
      let at : below (key_at c ts (place c ts k)) k ≡ false = not-true (below (key_at c ts (place c ts k)) k) (place_first.passes (omega arith)) in
      elim (ℕ_discrete i (place c ts k)) [
        | yes e ↦ ap (λ x. below (key_at c ts x) k) e ∙ at
        | no e ↦ test (below (key_at c ts i) k) (λ t. true_false (under_before rising (place c ts k) i (omega arith) (omega arith) l t) at) (λ t. t)
      ]

-- The test of an entry, from its three numbers
module _ (c : Columns) (ts : List ℕ) (a b d i : ℕ) where
  pub entry_numbers : is_entry_of c ts a b d i ≡ true → (left c i ≡ a) × (right c i ≡ b) × (get_or ts i 0 ≡ d)
  unfolding is_entry_of
  entry_numbers t =
      let u = and_right (eqb (left c i) a) (eqb (right c i) b && eqb (get_or ts i 0) d) t in (
        eqb-true (left c i) a (and_left (eqb (left c i) a) (eqb (right c i) b && eqb (get_or ts i 0) d) t),
        eqb-true (right c i) b (and_left (eqb (right c i) b) (eqb (get_or ts i 0) d) u),
        eqb-true (get_or ts i 0) d (and_right (eqb (right c i) b) (eqb (get_or ts i 0) d) u),
      )

  pub entry_is : is_entry_of c ts a b d i ≡ true → key_at c ts i ≡ a ∷ b ∷ d ∷ []
  unfolding key_at
  entry_is t = let (x, y, z) = entry_numbers t in rw (x, y, z)

-- Where the entry (a, b, d) stands: at its place or nowhere
module _ (c : Columns) (ts : List ℕ) (a b d : ℕ) where
  -- an entry of a list that ascends that is made of the numbers is the first such
  pub entry_found : Ascending c ts → (i : ℕ) → i < c.size → is_entry_of c ts a b d i ≡ true → i ≡ entry_index c ts a b d
  unfolding entry_index
  entry_found rising i l t =
      sym (first_unique 0 c.size i (is_entry_of c ts a b d) (omega arith) (record {
        from = omega arith;
        upto = omega arith;
        passes = λ z. t;
        before = λ j u v. test (is_entry_of c ts a b d j)
            (λ e. absurd (below_irrefl (a ∷ b ∷ d ∷ []) (rw (entry_is c ts a b d j e, entry_is c ts a b d i t) at (rising j i v l))))
            (λ e. e);
      }))

  -- no entry before its place is, and behind it none that the one there is not
  unlike_before : (i : ℕ) → i < place c ts (a ∷ b ∷ d ∷ []) → is_entry_of c ts a b d i ≡ false
  unlike_before i h = test (is_entry_of c ts a b d i)
      (λ e. absurd (below_irrefl (a ∷ b ∷ d ∷ []) ((below_iff (a ∷ b ∷ d ∷ []) (a ∷ b ∷ d ∷ [])).0 (rw (entry_is c ts a b d i e) at (place_before c ts (a ∷ b ∷ d ∷ []) i h)))))
      (λ e. e)

  pub entry_missed : Ascending c ts → (i : ℕ) → i ≡ place c ts (a ∷ b ∷ d ∷ []) → (i < c.size → is_entry_of c ts a b d i ≡ false) → c.size ≡ entry_index c ts a b d
  unfolding entry_index
  entry_missed rising i e none_there =
      sym (first_unique 0 c.size c.size (is_entry_of c ts a b d) (omega arith) (record {
        from = omega arith;
        upto = omega arith;
        passes = λ z. absurd (omega arith);
        before = λ j u v. elim (dec_lt j i) [
          | yes l ↦ unlike_before j (omega arith)
          | no l ↦ elim (ℕ_discrete j i) [
            | yes z ↦ ap (is_entry_of c ts a b d) z ∙ none_there (omega arith)
            | no z ↦ test (is_entry_of c ts a b d j)
                (λ t. true_false
                ((below_iff (key_at c ts i) (a ∷ b ∷ d ∷ [])).1 (rw (entry_is c ts a b d j t) at (rising i j (omega arith) v)))
                (place_behind c ts (a ∷ b ∷ d ∷ []) rising i (omega arith) (omega arith)))
                (λ t. t)
          ]
        ];
      }))

-- An entry is below (a, 0, 0) where its first number is less; below (a, b, 0) where its first two are
begins_below : (a x y z : ℕ) → Below (x ∷ y ∷ z ∷ []) (a ∷ 0 ∷ 0 ∷ []) → x < a
begins_below a x y z h = ⊎_elim (λ l. l) (λ l. ⊎_elim (λ m. absurd (omega arith)) (λ m. ⊎_elim (λ n. absurd (omega arith)) (λ n. absurd n.1) m.1) l.1) h

heads_below : (a b x y z : ℕ) → Below (x ∷ y ∷ z ∷ []) (a ∷ b ∷ 0 ∷ []) → (x < a) ⊎ ((x ≡ a) × (y < b))
heads_below a b x y z h = ⊎_elim (λ l. inl l) (λ l. ⊎_elim (λ m. inr (l.0, m)) (λ m. ⊎_elim (λ n. absurd (omega arith)) (λ n. absurd n.1) m.1) l.1) h

-- The entries that begin with a: from the place of (a, 0, 0) up to that of (a + 1, 0, 0)
module _ (c : Columns) (ts : List ℕ) (a : ℕ) where
  first_less : (i : ℕ) → below (key_at c ts i) (a ∷ 0 ∷ 0 ∷ []) ≡ true → left c i < a
  unfolding key_at
  first_less i u = begins_below a (left c i) (right c i) (get_or ts i 0) ((below_iff (key_at c ts i) (a ∷ 0 ∷ 0 ∷ [])).0 u)

  first_from : (i : ℕ) → below (key_at c ts i) (a ∷ 0 ∷ 0 ∷ []) ≡ false → a ≤ left c i
  unfolding key_at
  first_from i u = elim (dec_lt (left c i) a) [ yes l ↦ true_false ((below_iff (key_at c ts i) (a ∷ 0 ∷ 0 ∷ [])).1 (inl l)) u | no l ↦ omega arith ]

module _ (c : Columns) (ts : List ℕ) (a : ℕ) where
  pub begins_before : (i : ℕ) → i < place c ts (a ∷ 0 ∷ 0 ∷ []) → left c i ≡ a → ⊥
  begins_before i h e = let u = first_less c ts a i (place_before c ts (a ∷ 0 ∷ 0 ∷ []) i h) in omega arith

  pub begins_within : Ascending c ts → (i : ℕ) → place c ts (a ∷ 0 ∷ 0 ∷ []) ≤ i → i < place c ts ((a + 1) ∷ 0 ∷ 0 ∷ []) → left c i ≡ a
  begins_within rising i h k =
      let upto = place_upto c ts ((a + 1) ∷ 0 ∷ 0 ∷ []) in
      let u = first_from c ts a i (place_behind c ts (a ∷ 0 ∷ 0 ∷ []) rising i h (omega arith)) in
      let v = first_less c ts (a + 1) i (place_before c ts ((a + 1) ∷ 0 ∷ 0 ∷ []) i k) in
      omega arith

  pub begins_behind : Ascending c ts → (i : ℕ) → place c ts ((a + 1) ∷ 0 ∷ 0 ∷ []) ≤ i → i < c.size → left c i ≡ a → ⊥
  begins_behind rising i h k e = let u = first_from c ts (a + 1) i (place_behind c ts ((a + 1) ∷ 0 ∷ 0 ∷ []) rising i h k) in omega arith

  pub begins_order : Ascending c ts → place c ts (a ∷ 0 ∷ 0 ∷ []) ≤ place c ts ((a + 1) ∷ 0 ∷ 0 ∷ [])
  begins_order rising = elim (dec_lt (place c ts ((a + 1) ∷ 0 ∷ 0 ∷ [])) (place c ts (a ∷ 0 ∷ 0 ∷ []))) [
    | yes h ↦
        let i = place c ts ((a + 1) ∷ 0 ∷ 0 ∷ []) in
        let upto = place_upto c ts (a ∷ 0 ∷ 0 ∷ []) in
        let u = first_from c ts (a + 1) i (place_behind c ts ((a + 1) ∷ 0 ∷ 0 ∷ []) rising i (omega arith) (omega arith)) in
        let v = first_less c ts a i (place_before c ts (a ∷ 0 ∷ 0 ∷ []) i h) in
        absurd (omega arith)
    | no h ↦ omega arith
  ]

-- The entries that begin with (a, b): from the place of (a, b, 0) up to that of (a, b + 1, 0)
module _ (c : Columns) (ts : List ℕ) (a b : ℕ) where
  two_less : (i : ℕ) → below (key_at c ts i) (a ∷ b ∷ 0 ∷ []) ≡ true → (left c i < a) ⊎ ((left c i ≡ a) × (right c i < b))
  unfolding key_at
  two_less i u = heads_below a b (left c i) (right c i) (get_or ts i 0) ((below_iff (key_at c ts i) (a ∷ b ∷ 0 ∷ [])).0 u)

  two_from : (i : ℕ) → below (key_at c ts i) (a ∷ b ∷ 0 ∷ []) ≡ false → (a ≤ left c i) × (left c i ≡ a → b ≤ right c i)
  unfolding key_at
  two_from i u = (
    elim (dec_lt (left c i) a) [ yes l ↦ true_false ((below_iff (key_at c ts i) (a ∷ b ∷ 0 ∷ [])).1 (inl l)) u | no l ↦ omega arith ],
    λ e. elim (dec_lt (right c i) b) [ yes l ↦ true_false ((below_iff (key_at c ts i) (a ∷ b ∷ 0 ∷ [])).1 (inr (e, inl l))) u | no l ↦ omega arith ],
  )

module _ (c : Columns) (ts : List ℕ) (a b : ℕ) where
  pub heads_before : (i : ℕ) → i < place c ts (a ∷ b ∷ 0 ∷ []) → left c i ≡ a → right c i ≡ b → ⊥
  heads_before i h e f = ⊎_elim (λ l. omega arith) (λ l. let m = l.1 in omega arith) (two_less c ts a b i (place_before c ts (a ∷ b ∷ 0 ∷ []) i h))

  pub heads_within : Ascending c ts → (i : ℕ) → place c ts (a ∷ b ∷ 0 ∷ []) ≤ i → i < place c ts (a ∷ (b + 1) ∷ 0 ∷ []) → (left c i ≡ a) × (right c i ≡ b)
  heads_within rising i h k =
      let upto = place_upto c ts (a ∷ (b + 1) ∷ 0 ∷ []) in
      let (u, v) = two_from c ts a b i (place_behind c ts (a ∷ b ∷ 0 ∷ []) rising i h (omega arith)) in
      ⊎_elim (λ l. absurd (omega arith)) (λ l. let (x, y) = l in let z = v x in (x, omega arith))
      (two_less c ts a (b + 1) i (place_before c ts (a ∷ (b + 1) ∷ 0 ∷ []) i k))

  pub heads_behind : Ascending c ts → (i : ℕ) → place c ts (a ∷ (b + 1) ∷ 0 ∷ []) ≤ i → i < c.size → left c i ≡ a → right c i ≡ b → ⊥
  heads_behind rising i h k e f =
      let (u, v) = two_from c ts a (b + 1) i (place_behind c ts (a ∷ (b + 1) ∷ 0 ∷ []) rising i h k) in let z = v e in omega arith

  pub heads_order : Ascending c ts → place c ts (a ∷ b ∷ 0 ∷ []) ≤ place c ts (a ∷ (b + 1) ∷ 0 ∷ [])
  heads_order rising = elim (dec_lt (place c ts (a ∷ (b + 1) ∷ 0 ∷ [])) (place c ts (a ∷ b ∷ 0 ∷ []))) [
    | yes h ↦
        let i = place c ts (a ∷ (b + 1) ∷ 0 ∷ []) in
        let upto = place_upto c ts (a ∷ b ∷ 0 ∷ []) in
        let (u, v) = two_from c ts a (b + 1) i (place_behind c ts (a ∷ (b + 1) ∷ 0 ∷ []) rising i (omega arith) (omega arith)) in
        ⊎_elim (λ l. absurd (omega arith)) (λ l. let (x, y) = l in let z = v x in absurd (omega arith))
        (two_less c ts a b i (place_before c ts (a ∷ b ∷ 0 ∷ []) i h))
    | no h ↦ omega arith
  ]

-- The tests, from the numbers read
module _ (c : Columns) (ts : List ℕ) (a b d i x y z : ℕ) where
  pub first_told : x ≡ left c i → (x ≡ a → ⊥) → ltb x a ≡ below (key_at c ts i) (a ∷ b ∷ d ∷ [])
  unfolding key_at below
  first_told e f = rw (sym e, ne_eqb x a f) (sym (or_none (ltb x a)))

  pub second_told : x ≡ left c i → x ≡ a → y ≡ right c i → (y ≡ b → ⊥) → ltb y b ≡ below (key_at c ts i) (a ∷ b ∷ d ∷ [])
  unfolding key_at below
  second_told e f g h = rw (sym e, sym g, f, le-ltb a a (omega arith), eq-eqb a a refl, ne_eqb y b h) (sym (or_none (ltb y b)))

  pub third_told : x ≡ left c i → x ≡ a → y ≡ right c i → y ≡ b → z ≡ get_or ts i 0 → ltb z d ≡ below (key_at c ts i) (a ∷ b ∷ d ∷ [])
  unfolding key_at below
  third_told e f g h u = rw (sym e, sym g, sym u, f, h, le-ltb a a (omega arith), eq-eqb a a refl, le-ltb b b (omega arith), eq-eqb b b refl, and_none (eqb z d)) (sym (or_none (ltb z d)))

  pub first_unlike : x ≡ left c i → (x ≡ a → ⊥) → false ≡ is_entry_of c ts a b d i
  unfolding is_entry_of
  first_unlike e f = rw (sym e, ne_eqb x a f)

  pub second_unlike : x ≡ left c i → x ≡ a → y ≡ right c i → (y ≡ b → ⊥) → false ≡ is_entry_of c ts a b d i
  unfolding is_entry_of
  second_unlike e f g h = rw (sym e, eq-eqb x a f, sym g, ne_eqb y b h)

  pub third_like : x ≡ left c i → x ≡ a → y ≡ right c i → y ≡ b → z ≡ get_or ts i 0 → eqb z d ≡ is_entry_of c ts a b d i
  unfolding is_entry_of
  third_like e f g h u = rw (sym e, eq-eqb x a f, sym g, eq-eqb y b h, u)
