-- The closed form of a bad's weight is the least, and is reached: what each item still lacks is put on its lightest counter, single letters first.
use Prim.Native.Nat.{ℕ, zero, suc, ◌+◌, ◌-◌, ◌*◌, ◌≤◌, ◌<◌}
use native.Mathlib.Omega.{arith}
use native.Mathlib.Nat.{mul-le-mul_left}
use mathlib.Core.Path.{◌≡◌, refl, sym, ◌∙◌, ap, subst}
use mathlib.Core.Bool.{Bool, true, false, not, ◌&&◌, ◌||◌}
use mathlib.Core.List.Memᴰ
use mathlib.Core.List.{List, [], ◌∷◌, Memᴰ}
use mathlib.Core.Logic.{◌⊎◌, inl, inr, ⊎_elim}
use lib.Dec.{leb, ltb, eqb}
use borrow.Author.Tests.{leb-true, le-leb, ltb-true, ltb-false, eqb-true, not-true, not-false}
use Rattle.model.specs.Index.{implies, any, all, first, total}
use Rattle.model.specs.Rows.{Program}
use Rattle.model.specs.Tables.{Tables}
use Rattle.model.specs.Bads.{Subject, Item, met}
use Rattle.model.specs.Counters.{counter_count, counts}
use Rattle.model.specs.Markings.{Marking, sum_in}
use Rattle.model.specs.Weights.{Line, weighed, lightest, fill, is_single_of, fill_those, least_counts, least_weight_of, without_counter}
use Rattle.model.specs.Weighing.{IsLeast, LeastWeights}
use Rattle.model.proofs.Logic.{test, true_false, and_left, and_right, and_intro, or_cases, or_false_left, or_false_right, implies_elim, implies_intro, not_passes, not_fails}
use Rattle.model.proofs.Index.{any_elim, any_intro, any_none, all_elim, all_intro, first_is, first_below, total_same, total_plus, total_le, total_none}
use Rattle.model.proofs.Weighed.Least.{Count, pick, only_at, total_at, pick_plus, pick_le, pick_there, sum_on, Dominated, fill_step}
use Rattle.model.proofs.Weighed.Groups.{single_one, counted_below, same_group}

record Lightest (n : ℕ) (c : ℕ → Bool) (w : ℕ → ℕ) (y : ℕ) : Type 0 where
  below : y < n
  among : c y ≡ true
  least : (x : ℕ) → x < n → c x ≡ true → w y ≤ w x

-- where there is one, there is a lightest one
argmin : (n x : ℕ) (c : ℕ → Bool) (w : ℕ → ℕ) → x < n → c x ≡ true → (y : ℕ) × Lightest n c w y
argmin zero x c w l h = absurd (omega arith)
argmin (suc n) x c w l h =
    test (any 0 n c)
    (λ e. let (z, b, t) = any_elim 0 n c e in
    let (y, g) = argmin n z c w b.1 t in
    test (c n && ltb (w n) (w y))
    (λ q. let k = ltb-true (w n) (w y) (and_right (c n) (ltb (w n) (w y)) q) in
    (n, record { below = omega arith; among = and_left (c n) (ltb (w n) (w y)) q; least = λ u b r. test (ltb u n) (λ i. let j = g.least u (ltb-true u n i) r in omega arith) (λ i. let j = ltb-false u n i in let s : u ≡ n = omega arith in rw s (omega arith)) }))
    (λ q. (
      y,
      record {
        below = let b = g.below in omega arith;
        among = g.among;
        least = λ u b r. test (ltb u n) (λ i. g.least u (ltb-true u n i) r) (λ i. let j = ltb-false u n i in let s : u ≡ n = omega arith in
            let cn : c n ≡ true = subst (λ v. c v ≡ true) s r in
            subst (λ v. w y ≤ w v) (sym s) (ltb-false (w n) (w y) (test (ltb (w n) (w y)) (λ o. true_false (and_intro (c n) (ltb (w n) (w y)) cn o) q) (λ o. o))));
      },
    )))
    (λ e. let s : x ≡ n = test (ltb x n) (λ i. true_false h (any_none 0 n x c e (omega arith) (ltb-true x n i))) (λ i. let j = ltb-false x n i in omega arith) in
    (n, record { below = omega arith; among = subst (λ v. c v ≡ true) s h; least = λ u b r. test (ltb u n) (λ i. true_false r (any_none 0 n u c e (omega arith) (ltb-true u n i))) (λ i. let j = ltb-false u n i in let q : u ≡ n = omega arith in rw q (omega arith)) }))

-- a bad is met where each item is
met_intro : (f : Subject → ℕ) (is : List Item) → ((i : Item) → Memᴰ i is → i.minimum ≤ f i.subject) → met f is ≡ true
unfolding met
met_intro f [] h = refl
met_intro f (i ∷ is) h =
    and_intro (leb i.minimum (f i.subject)) (met f is) (le-leb i.minimum (f i.subject) (h i (Memᴰ.head refl))) (met_intro f is (λ j m. h j (Memᴰ.tail m)))

met_elim : (f : Subject → ℕ) (is : List Item) → met f is ≡ true → (i : Item) → Memᴰ i is → i.minimum ≤ f i.subject
unfolding met
met_elim f [] h i m = absurd (Memᴰ.not-nil m)
met_elim f (j ∷ is) h i m =
    ⊎_elim
    (λ e. let z = leb-true j.minimum (f j.subject) (and_left (leb j.minimum (f j.subject)) (met f is) h) in subst (λ (u : Item). u.minimum ≤ f u.subject) (sym e) z)
    (λ l. met_elim f is (and_right (leb j.minimum (f j.subject)) (met f is) h) i l)
    (Memᴰ.cases_cons m)

module _ (p : Program) (t : Tables) (w : Line) where
  abbrev n : ℕ
  n = counter_count p t

  abbrev c : Subject → ℕ → Bool
  c k = counts p t k

  abbrev y : Subject → ℕ
  y k = lightest p t w k

  abbrev on : Subject → Count → ℕ
  on k a = sum_on n (c k) a

  abbrev Has : Subject → Type 0
  Has k = any 0 n (c k) ≡ true

  sum_is : (k : Subject) (a : Count) → sum_in p t a k ≡ on k a
  unfolding sum_in
  sum_is k a = refl

  weight_is : (a : Count) → weighed n w a ≡ total 0 n (λ x. w x * a x)
  unfolding weighed
  weight_is a = refl

  -- the definition finds it
  lightest_is : (k : Subject) → Has k → Lightest n (c k) w (y k)
  unfolding lightest
  lightest_is k has =
      let (x, l, h) = any_elim 0 n (c k) has in
      let (z, g) = argmin n x (c k) w l.1 h in
      let lowest : ℕ → Bool = λ u. all 0 n (λ v. implies (c k v) (leb (w u) (w v))) in
      let good : ℕ → Bool = λ u. c k u && lowest u in
      let passes : good z ≡ true = and_intro (c k z) (lowest z) g.among
      (all_intro 0 n (λ v. implies (c k v) (leb (w z) (w v))) (λ v a b. implies_intro (c k v) (leb (w z) (w v)) (λ e. le-leb (w z) (w v) (g.least v b e)))) in
      let f = first_is 0 n good (omega arith) in
      let below : first 0 n good < n = let q = first_below 0 n z good (omega arith) g.below passes in omega (arith, q, g.below) in
      let here = f.passes below in
      record {
        below = below;
        among = and_left (c k (first 0 n good)) (lowest (first 0 n good)) here;
        least = λ u b r. leb-true (w (first 0 n good)) (w u) (implies_elim (c k u) (leb (w (first 0 n good)) (w u)) (all_elim 0 n u (λ v. implies (c k v) (leb (w (first 0 n good)) (w v))) (and_right (c k (first 0 n good)) (lowest (first 0 n good)) here) (omega arith) b) r);
      }

  has_at : (k : Subject) (x : ℕ) → c k x ≡ true → Has k
  has_at k x h = any_intro 0 n x (c k) (omega arith) (counted_below p t k x h) h

  on_none : (k : Subject) (a : Count) → any 0 n (c k) ≡ false → on k a ≡ 0
  on_none k a e = total_none 0 n (λ x. pick (c k x) (a x) 0) (λ x lo hi. let z = any_none 0 n x (c k) e lo hi in rw z refl)

  on_more : (k : Subject) (a b : Count) → ((x : ℕ) → a x ≤ b x) → on k a ≤ on k b
  on_more k a b h = total_le 0 n (λ x. pick (c k x) (a x) 0) (λ x. pick (c k x) (b x) 0) (λ x. pick_le (c k x) (a x) (b x) (h x))

  fill_is : (i : Item) (a : Count) (x : ℕ) → fill p t w i a x ≡ pick (eqb x (y i.subject)) (a x + (i.minimum - on i.subject a)) (a x)
  unfolding fill
  fill_is i a x = ap (λ z. pick (eqb x (y i.subject)) (a x + (i.minimum - z)) (a x)) (sum_is i.subject a)

  -- filling takes nothing away
  fill_more : (i : Item) (a : Count) (x : ℕ) → a x ≤ fill p t w i a x
  fill_more i a x = let e = fill_is i a x in let q = more (eqb x (y i.subject)) (a x) (i.minimum - on i.subject a) in omega (arith, e, q)
    where
      more : (b : Bool) (u v : ℕ) → u ≤ pick b (u + v) u
      more true u v = omega arith
      more false u v = omega arith

  -- and meets the item
  fill_meets : (i : Item) (a : Count) → Has i.subject → i.minimum ≤ on i.subject (fill p t w i a)
  fill_meets i a has =
      let k : Subject = i.subject in
      let g = lightest_is k has in
      let v : ℕ = i.minimum - on k a in
      let l1 = total_same 0 n (λ x. pick (c k x) (fill p t w i a x) 0) (λ x. pick (c k x) (a x) 0 + only_at (y k) v x)
      (λ x lo hi. pick_plus (c k x) (fill p t w i a x) (a x) (only_at (y k) v x) (fill_is i a x ∙ apart (eqb x (y k)) (a x) v) ∙ ap (λ z. pick (c k x) (a x) 0 + z) (pick_there (c k) (y k) v x g.among)) in
      let l2 = total_plus 0 n (λ x. pick (c k x) (a x) 0) (only_at (y k) v) in
      let l3 = total_at n (y k) v g.below in
      omega (arith, l1, l2, l3)
    where
      apart : (b : Bool) (u v : ℕ) → pick b (u + v) u ≡ u + pick b v 0
      apart true u v = refl
      apart false u v = omega arith

  abbrev pick_count : Bool → Count → Count → Count
  pick_count b f g = elim b [ true ↦ f | false ↦ g ]

  -- of a pass: nothing is taken away, and each of its items is met
  those_more : (which : Subject → Bool) (js : List Item) (a : Count) (x : ℕ) → a x ≤ fill_those p t w which js a x
  unfolding fill_those
  those_more which [] a x = omega arith
  those_more which (i ∷ js) a x =
      let q = those_more which js (pick_count (which i.subject) (fill p t w i a) a) x in
      let r = first_more (which i.subject) in
      omega (arith, q, r)
    where
      first_more : (b : Bool) → a x ≤ pick_count b (fill p t w i a) a x
      first_more true = fill_more i a x
      first_more false = omega arith

  those_meet : (which : Subject → Bool) (js : List Item) (a : Count) (i : Item) → Memᴰ i js → which i.subject ≡ true → Has i.subject → i.minimum ≤ on i.subject (fill_those p t w which js a)
  unfolding fill_those
  those_meet which [] a i m e has = absurd (Memᴰ.not-nil m)
  those_meet which (j ∷ js) a i m e has =
      ⊎_elim
      (λ s. subst (λ (u : Item). u.minimum ≤ on u.subject (fill_those p t w which (j ∷ js) a)) (sym s) (here (subst (λ (u : Item). which u.subject ≡ true) s e) (subst (λ (u : Item). Has u.subject) s has)))
      (λ l. those_meet which js (pick_count (which j.subject) (fill p t w j a) a) i l e has)
      (Memᴰ.cases_cons m)
    where
      here : which j.subject ≡ true → Has j.subject → j.minimum ≤ on j.subject (fill_those p t w which (j ∷ js) a)
      here e has =
          subst (λ (b : Bool). j.minimum ≤ on j.subject (fill_those p t w which js (pick_count b (fill p t w j a) a))) (sym e)
          (let q = fill_meets j a has in
          let r = on_more j.subject (fill p t w j a) (fill_those p t w which js (fill p t w j a)) (those_more which js (fill p t w j a)) in
          omega (arith, q, r))

  abbrev singles : List Item → Count
  singles is = fill_those p t w is_single_of is (λ x. 0)

  abbrev is_group : Subject → Bool
  is_group k = not (is_single_of k)

  -- all items together
  least_meets : (is : List Item) (i : Item) → Memᴰ i is → Has i.subject → i.minimum ≤ on i.subject (least_counts p t w is)
  unfolding least_counts
  least_meets is i m has =
      test (is_single_of i.subject)
      (λ e. let q = those_meet is_single_of is (λ x. 0) i m e has in
      let r = on_more i.subject (singles is) (fill_those p t w is_group is (singles is)) (those_more is_group is (singles is)) in
      omega (arith, q, r))
      (λ e. those_meet is_group is (singles is) i m (not_passes (is_single_of i.subject) e) has)

  -- Counts that meet all items
  module _ (is : List Item) (m : Marking) (ok : (i : Item) → Memᴰ i is → i.minimum ≤ on i.subject m) where
    record Asked : Type 0 where
      item : Item
      listed : Memᴰ item is

    abbrev T : Asked → ℕ → Bool
    T j = c j.item.subject

    abbrev Dom : Count → Type 0
    Dom a = Dominated n w (weighed n w m) Asked T (λ j. j.item.minimum) a

    at_first : Dom (λ x. 0)
    at_first =
        record {
          counts = m;
          above = λ x. omega arith;
          weighs = let e = weight_is m in omega (arith, e);
          meets = λ j. ok j.item j.listed;
        }

    -- what another item has to do with the item i, where a is filled in
    abbrev Kinds : Item → Count → Type 0
    Kinds i a = (j : Asked) → (T j (y i.subject) ≡ true) ⊎ (((x : ℕ) → T j x ≡ true → c i.subject x ≡ false) ⊎ (j.item.minimum ≤ on j.item.subject a))

    filled_dom : (i : Item) → Memᴰ i is → (a : Count) → Kinds i a → Dom a → Dom (fill p t w i a)
    filled_dom i l a kinds d =
        test (any 0 n (c i.subject))
        (λ e. let g = lightest_is i.subject e in
        let f = fill_step n w (weighed n w m) Asked T (λ j. j.item.minimum) (record { item = i; listed = l }) (y i.subject) a g.below (λ u r. g.least u (counted_below p t i.subject u r) r) kinds d in
        record { counts = f.counts; above = λ u. let q = f.above u in let v = fill_is i a u in omega (arith, q, v); weighs = f.weighs; meets = f.meets })
        (λ e. let z = on_none i.subject d.counts e in
        let q = d.meets (record { item = i; listed = l }) in
        record { counts = d.counts; above = λ x. let r = nothing (eqb x (y i.subject)) (a x) i.minimum (on i.subject a) (omega (arith, q, z)) in let v = fill_is i a x in let u = d.above x in omega (arith, r, v, u); weighs = d.weighs; meets = d.meets })
      where
        nothing : (b : Bool) (u v z : ℕ) → v ≤ 0 → pick b (u + (v - z)) u ≡ u
        nothing true u v z h = omega arith
        nothing false u v z h = refl

    -- one pass
    pass : (which : Subject → Bool) (js : List Item) → ((i : Item) → Memᴰ i js → Memᴰ i is) → (a : Count) → ((i : Item) → Memᴰ i js → which i.subject ≡ true → (a' : Count) → ((x : ℕ) → a x ≤ a' x) → Kinds i a') → Dom a → Dom (fill_those p t w which js a)
    unfolding fill_those
    pass which [] s a k d = d
    pass which (i ∷ js) s a k d =
        test (which i.subject)
        (λ e. subst (λ (b : Bool). Dom (fill_those p t w which js (pick_count b (fill p t w i a) a))) (sym e) (pass which js (λ z l. s z (Memᴰ.tail l)) (fill p t w i a) (λ z l r a' h. k z (Memᴰ.tail l) r a' (λ x. let q = fill_more i a x in let v = h x in omega arith)) (filled_dom i (s i (Memᴰ.head refl)) a (k i (Memᴰ.head refl) e a (λ x. omega arith)) d)))
        (λ e. subst (λ (b : Bool). Dom (fill_those p t w which js (pick_count b (fill p t w i a) a))) (sym e) (pass which js (λ z l. s z (Memᴰ.tail l)) a (λ z l r a' h. k z (Memᴰ.tail l) r a' h) d))

    -- a single letter: another item has its counter, or is apart
    single_kinds : (i : Item) (a : Count) → is_single_of i.subject ≡ true → Kinds i a
    single_kinds i a single j =
        test (T j (y i.subject)) (λ e. inl e)
        (λ e. inr (inl (λ x h. test (c i.subject x)
        (λ q. let g = lightest_is i.subject (has_at i.subject x q) in
        let z = single_one p t i.subject x (y i.subject) single q g.among in
        true_false (subst (λ u. T j u ≡ true) z h) e)
        (λ q. q))))

    -- a group: another is the same or apart, and a single letter is met already
    group_kinds : (i : Item) (a : Count) → is_single_of i.subject ≡ false → ((x : ℕ) → singles is x ≤ a x) → Kinds i a
    group_kinds i a group more j =
        test (T j (y i.subject)) (λ e. inl e)
        (λ e. test (is_single_of j.item.subject)
        (λ s. test (any 0 n (T j))
        (λ has. let q = those_meet is_single_of is (λ x. 0) j.item j.listed s has in
        let r = on_more j.item.subject (singles is) a more in
        inr (inr (omega (arith, q, r))))
        (λ none. inr (inl (λ x h. true_false (has_at j.item.subject x h) none))))
        (λ s. inr (inl (λ x h. test (c i.subject x)
        (λ q. let g = lightest_is i.subject (has_at i.subject x q) in
        true_false (same_group p t i.subject j.item.subject x (y i.subject) group s q g.among h) e)
        (λ q. q)))))

    no_less : least_weight_of p t w is ≤ weighed n w m
    unfolding least_weight_of least_counts
    no_less =
        let d1 = pass is_single_of is (λ i l. l) (λ x. 0) (λ i l r a h. single_kinds i a r) at_first in
        let d2 = pass is_group is (λ i l. l) (singles is) (λ i l r a h. group_kinds i a (not-true (is_single_of i.subject) r) h) d1 in
        let e = weight_is (fill_those p t w is_group is (singles is)) in
        let f = total_le 0 n (λ x. w x * fill_those p t w is_group is (singles is) x) (λ x. w x * d2.counts x) (λ x. mul-le-mul_left (w x) (d2.above x)) in
        let g = d2.weighs in
        omega (arith, e, f, g)

  -- each item has a counter, or one has none
  each_has : (is : List Item) → without_counter p t is ≡ false → (i : Item) → Memᴰ i is → Has i.subject
  unfolding without_counter
  each_has [] h i m = absurd (Memᴰ.not-nil m)
  each_has (j ∷ is) h i m =
      ⊎_elim
      (λ e. subst (λ (u : Item). Has u.subject) (sym e) (not-false (any 0 n (c j.subject)) (or_false_left (not (any 0 n (c j.subject))) (without_counter p t is) h)))
      (λ l. each_has is (or_false_right (not (any 0 n (c j.subject))) (without_counter p t is) h) i l)
      (Memᴰ.cases_cons m)

  one_without : (is : List Item) → without_counter p t is ≡ true → (i : Item) × Memᴰ i is × (any 0 n (c i.subject) ≡ false)
  unfolding without_counter
  one_without [] h = true_false h refl
  one_without (j ∷ is) h =
      ⊎_elim
      (λ e. (j, Memᴰ.head refl, not-true (any 0 n (c j.subject)) e))
      (λ e. let (i, m, q) = one_without is e in (i, Memᴰ.tail m, q))
      (or_cases (not (any 0 n (c j.subject))) (without_counter p t is) h)

  pub is_least : (is : List Item) → IsLeast p t w is
  unfolding least_weight_of
  is_least is =
      record {
        least = λ counts h. no_less is counts (λ i m. let z = met_elim (sum_in p t counts) is h i m in let e = sum_is i.subject counts in omega (arith, z, e));
        reached = λ h. (
          least_counts p t w is,
          met_intro (sum_in p t (least_counts p t w is)) is (λ i m. let z = least_meets is i m (each_has is h i m) in let e = sum_is i.subject (least_counts p t w is) in omega (arith, z, e)),
          refl,
        );
        without = λ h low counts met.
            let (i, m, none) = one_without is h in
            let z = met_elim (sum_in p t counts) is met i m in
            omega (arith, z, low i m, sum_is i.subject counts, on_none i.subject counts none);
      }

-- Document 02, (v): the weight of a bad is the least
pub least_weights : LeastWeights
least_weights = is_least
