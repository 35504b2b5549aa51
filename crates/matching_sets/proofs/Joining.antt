-- The set of a held name, filled value by value: sets that values are joined to, and values that may be equal.
use Prim.Native.Nat.{ℕ, ◌+◌, ◌*◌, ◌≤◌, ◌<◌}
use native.Mathlib.Decide.{ℕ_discrete, dec_lt}
use native.Mathlib.Omega.{arith}
use mathlib.Core.Path.{◌≡◌, refl, sym, ◌∙◌, ap, ap₂}
use mathlib.Core.Bool.{Bool, true, false, ◌&&◌, ◌||◌}
use mathlib.Core.List.{List}
use mathlib.Core.Logic.{inr, ⊎_elim}
use lib.Dec.{eqb, ltb}
use lib.ListN.{length}
use borrow.Author.Tests.{eqb-true, eq-eqb, ne_eqb, ltb-true, lt-ltb, le-ltb}
use Rattle.model.specs.declared.Sizes.{Sizes}
use Rattle.model.specs.Index.{any, first}
use Rattle.model.specs.Words.{columns}
use Rattle.model.specs.Rows.{Program, program, size, tag, num}
use Rattle.model.specs.Heads.{is_class_of}
use Rattle.model.specs.Tables.{Tables, tables}
use Rattle.model.specs.Closed.{is_same_constructor, may_equal}
use Rattle.model.proofs.Logic.{true_false, test, and_left, and_right, and_intro, or_cases, or_right, and_none, or_none}
use Rattle.model.proofs.Index.{any_end, any_hit, any_miss, any_intro, any_elim, first_is}
use Rattle.model.proofs.Rows.{program_end}
use Rattle.model.proofs.Parse.Lengths.{row_within, ColumnsWhole}
use Rattle.bits.specs.Bits.{member, Row, Put}
use Rattle.bits.proofs.Loops.{any_split}
use Rattle.lists.specs.Ready.{Ready}
use Rattle.lists.proofs.Facts.{rows_fit}
use Rattle.values.specs.Values.{width, Values}
use Rattle.values.proofs.Members.{some_set}
use Rattle.matching.specs.Patterns.{is_build, does_equal_some}
use Rattle.matching_sets.specs.Sets.{Clear, Joined, Alike, HeldName}
use Rattle.matching.proofs.Subpatterns.{stands_from, pattern_name}

distribute : (m a f g : Bool) → (m || (a && f) || (a && g)) ≡ (m || (a && (f || g)))
distribute true a f g = refl
distribute false true f g = refl
distribute false false f g = refl

absorbed : (m b : Bool) → (b ≡ true → m ≡ true) → m ≡ (m || b)
absorbed true b h = refl
absorbed false true h = h refl
absorbed false false h = refl

module _ {w q : ℕ} where
  pub joined_same : {u t : List ℕ} {f : ℕ → Bool} (g : ℕ → Bool) → ((v : ℕ) → v < 64 * w → f v ≡ g v) → Joined w q f u t → Joined w q g u t
  joined_same {u} g e j = record { long = j.long; members = λ n v l. j.members n v l ∙ ap (λ b. member u w n v || (eqb n q && b)) (e v l) }

  pub joined_more : {u t t' : List ℕ} {f g : ℕ → Bool} → Joined w q f u t → Joined w q g t t' → Joined w q (λ v. f v || g v) u t'
  joined_more {u} {f = f} {g = g} a b = record {
    long = b.long ∙ a.long;
    members = λ n v l. b.members n v l ∙ (ap (λ x. x || (eqb n q && g v)) (a.members n v l) ∙ distribute (member u w n v) (eqb n q) (f v) (g v));
  }

  -- where all that pass are there already, nothing changes
  pub joined_there : {u : List ℕ} (f : ℕ → Bool) → ((v : ℕ) → v < 64 * w → f v ≡ true → member u w q v ≡ true) → Joined w q f u u
  joined_there {u} f h = record {
    long = refl;
    members = λ n v l. absorbed (member u w n v) (eqb n q && f v)
        (λ z. ap (λ k. member u w k v) (eqb-true n q (and_left (eqb n q) (f v) z)) ∙ h v l (and_right (eqb n q) (f v) z));
  }

  pub joined_put : {u t : List ℕ} (v : ℕ) → Put w q v u t → Joined w q (λ x. eqb x v) u t
  joined_put v r = record { long = r.long; members = λ n x l. r.members n x l }

  -- the other sets are as they were; this one, where it was empty, has what passes
  pub joined_others : {u t : List ℕ} {f : ℕ → Bool} → Joined w q f u t → (n x : ℕ) → x < 64 * w → (n ≡ q → ⊥) → member t w n x ≡ member u w n x
  joined_others {u} {f = f} j n x l ne = j.members n x l ∙ (ap (λ b. member u w n x || (b && f x)) (ne_eqb n q ne) ∙ or_none (member u w n x))

  pub joined_here : {u t : List ℕ} {f : ℕ → Bool} → Joined w q f u t → Clear w (q + 1) u → (x : ℕ) → x < 64 * w → member t w q x ≡ f x
  joined_here {f = f} j c x l = j.members q x l ∙ ap₂ (λ a b. a || (b && f x)) (c.none q x (omega arith) l) (eq-eqb q q refl)

pub row_kept : {w x q : ℕ} {u t : List ℕ} → w ≡ x → Row u x q → length t ≡ length u → Row t w q
row_kept e r same = let z = r.room in rw e (record { room = omega arith })

-- the builds of a constructor, one after the other
module _ (p : Program) (k : ℕ) where
  -- those before v are in the set, and v is the next
  pub record Building (w q : ℕ) (u t : List ℕ) (v : ℕ) : Type 0 where
    pub joined : Joined w q (λ x. is_build p k x && ltb x v) u t
    pub upto : v ≤ size p
    pub here : v < size p → is_build p k v ≡ true

  none_before : (v : ℕ) → v ≡ first 0 (size p) (is_build p k) → (x : ℕ) → (is_build p k x && ltb x v) ≡ false
  none_before v e x =
      let f = first_is 0 (size p) (is_build p k) (omega arith) in
      test (ltb x v) (λ z. let l = ltb-true x v z in ap (λ b. b && ltb x v) (f.before x (omega arith) (omega arith)))
      (λ z. ap (λ b. is_build p k x && b) z ∙ and_none (is_build p k x))

  pub building_begin : (w q : ℕ) (u : List ℕ) (v : ℕ) → v ≡ first 0 (size p) (is_build p k) → Building w q u u v
  building_begin w q u v e =
      let f = first_is 0 (size p) (is_build p k) (omega arith) in
      record {
        joined = joined_there (λ x. is_build p k x && ltb x v) (λ x l z. true_false z (none_before v e x));
        upto = let z = f.upto in omega arith;
        here = λ l. rw e (f.passes (omega arith));
      }

  -- one more
  one_more : (v y x : ℕ) → is_build p k v ≡ true → v < y → ((j : ℕ) → v + 1 ≤ j → j < y → is_build p k j ≡ false) → (is_build p k x && ltb x v || eqb x v) ≡ (is_build p k x && ltb x y)
  one_more v y x b l none = elim (ℕ_discrete x v) [
    | yes e ↦ rw (e, b, le-ltb v v (omega arith), eq-eqb v v refl, lt-ltb v y l)
    | no e ↦ elim (dec_lt x v) [
      | yes m ↦ rw (lt-ltb x v m, lt-ltb x y (omega arith), ne_eqb x v e) (or_none (is_build p k x && true))
      | no m ↦ rw (le-ltb x v (omega arith), ne_eqb x v e, and_none (is_build p k x)) (elim (dec_lt x y) [
        | yes n ↦ sym (ap (λ c. c && ltb x y) (none x (omega arith) n))
        | no n ↦ sym (ap (λ c. is_build p k x && c) (le-ltb x y (omega arith)) ∙ and_none (is_build p k x))
      ])
    ]
  ]

  pub building_next : (w q : ℕ) (u t t' : List ℕ) (v y : ℕ) → Building w q u t v → v < size p → Put w q v t t' → y ≡ first (v + 1) (size p) (is_build p k) → Building w q u t' y
  building_next w q u t t' v y h less put e =
      let f = first_is (v + 1) (size p) (is_build p k) (omega arith) in
      let from = f.from in
      record {
        joined = joined_same (λ x. is_build p k x && ltb x y) (λ x l. one_more v y x (h.here less) (omega arith) (λ j a b. f.before j a (omega arith)))
            (joined_more h.joined (joined_put v put));
        upto = let z = f.upto in omega arith;
        here = λ l. rw e (f.passes (omega arith));
      }

  pub building_over : ColumnsWhole p → (w x q : ℕ) (u t : List ℕ) (v : ℕ) → w ≡ x → Building w q u t v → size p ≤ v → Joined x q (is_build p k) u t
  unfolding is_build
  building_over whole w x q u t v ew h over =
      rw (← ew) (joined_same (is_build p k) (λ y l. test (is_build p k y)
      (λ b. let z = eqb-true (tag p y) 2 (and_left (eqb (tag p y) 2) _ b) in
      let c = row_within whole y (omega arith) in
      ap (λ c. is_build p k y && c) (lt-ltb y v (omega arith)) ∙ (ap (λ c. c && true) b ∙ sym b))
      (λ b. ap (λ c. c && ltb y v) b ∙ sym b)) h.joined)

-- which values may be equal to u
module _ (p : Program) where
  class_tag : tag p (size p) ≡ 0 → (u : ℕ) → is_class_of p u ≡ true → tag p u ≡ 2 → ⊥
  unfolding is_class_of
  class_tag end u c two =
      ⊎_elim (λ z. let y = eqb-true (tag p u) 6 z in omega arith)
      (λ z. let y = sym (ap (tag p) (eqb-true u (size p) z)) ∙ two in omega (arith, end, y))
      (or_cases (eqb (tag p u) 6) (eqb u (size p)) c)

  pub equal_class : tag p (size p) ≡ 0 → (v u : ℕ) → is_class_of p u ≡ true → may_equal p v u ≡ eqb v u
  unfolding may_equal
  equal_class end v u c =
      rw (ne_eqb (tag p u) 2 (class_tag end u c)) (or_none (is_class_of p v && eqb v u) ∙
      test (eqb v u) (λ z. ap₂ ◌&&◌ (ap (is_class_of p) (eqb-true v u z) ∙ c) refl)
      (λ z. ap (λ b. is_class_of p v && b) z ∙ (and_none (is_class_of p v) ∙ sym z)))

  not_class : (v u : ℕ) → is_class_of p u ≡ false → (is_class_of p v && eqb v u) ≡ false
  not_class v u c = test (eqb v u)
      (λ z. ap (λ b. b && eqb v u) (ap (is_class_of p) (eqb-true v u z) ∙ c))
      (λ z. ap (λ b. is_class_of p v && b) z ∙ and_none (is_class_of p v))

  pub equal_build : (v u : ℕ) → is_class_of p u ≡ false → tag p u ≡ 2 → may_equal p v u ≡ is_build p (num p (u + 1)) v
  unfolding may_equal is_build is_same_constructor
  equal_build v u c two = rw (not_class v u c, eq-eqb (tag p u) 2 two)

  pub equal_none : (v u : ℕ) → is_class_of p u ≡ false → (tag p u ≡ 2 → ⊥) → may_equal p v u ≡ false
  unfolding may_equal
  equal_none v u c other = rw (not_class v u c, ne_eqb (tag p u) 2 other)

  -- what may be equal to a build row is so to all those of its constructor
  equal_alike : (a b x : ℕ) → is_class_of p a ≡ false → may_equal p a x ≡ true → is_build p (num p (a + 1)) b ≡ true → may_equal p b x ≡ true
  unfolding may_equal is_build is_same_constructor
  equal_alike a b x c e f =
      ⊎_elim (λ z. true_false (and_left (is_class_of p a) (eqb a x) z) c)
      (λ z. let two = and_left (eqb (tag p x) 2) _ z in
      let same = eqb-true (num p (a + 1)) (num p (x + 1)) (and_right (eqb (tag p a) 2) _ (and_right (eqb (tag p x) 2) _ z)) in
      or_right (is_class_of p b && eqb b x) _ (and_intro (eqb (tag p x) 2) _ two (rw same at f)))
      (or_cases (is_class_of p a && eqb a x) _ e)

-- what is put because of u, by what the code reads of it
module _ (ws : List ℕ) (s : Sizes) (q u w : ℕ) (sets t : List ℕ) (b : Bool) (class : b ≡ is_class_of (program ws s) u) where
  abbrev PutEquals : Type 0
  PutEquals = Joined (width s.rows) q (λ v. may_equal (program ws s) v u) sets t

  pub put_class : w ≡ width s.rows → b ≡ true → Put w q u sets t → PutEquals
  put_class ew is put = rw (← ew) (joined_same _ (λ v l. sym (equal_class (program ws s) (program_end ws s (size (program ws s)) (omega arith)) v u (sym class ∙ is))) (joined_put u put))

  module _ (kind : ℕ) (tagged : kind ≡ tag (program ws s) u) (is : b ≡ false) where
    pub put_build : kind ≡ 2 → Joined (width s.rows) q (is_build (program ws s) (num (program ws s) (u + 1))) sets t → PutEquals
    put_build two j = joined_same _ (λ v l. sym (equal_build (program ws s) v u (sym class ∙ is) (sym tagged ∙ two))) j

    pub put_none : (kind ≡ 2 → ⊥) → sets ≡ t → PutEquals
    put_none other same = rw (← same) (joined_there _ (λ v l z. true_false z (equal_none (program ws s) v u (sym class ∙ is) (λ y. other (tagged ∙ y)))))

    pub put_there : (h : Bool) → w ≡ width s.rows → u < 64 * width s.rows → Alike (program ws s) (width s.rows) q sets → kind ≡ 2 → h ≡ member sets w q u → h ≡ true → sets ≡ t → PutEquals
    put_there h ew low a two held there same =
        let c = sym class ∙ is in
        let e = sym tagged ∙ two in
        rw (← same) (joined_there _ (λ v l z. a.alike u v low l c e (rw ew at (sym held ∙ there)) (sym (equal_build (program ws s) v u c e) ∙ z)))

-- one more turn
pub any_last : (u : ℕ) (f : ℕ → Bool) → any 0 (u + 1) f ≡ (any 0 u f || f u)
any_last u f = any_split 0 u (u + 1) f (omega arith) (omega arith) ∙ ap (λ b. any 0 u f || b)
    (test (f u) (λ z. any_hit u (u + 1) f (omega arith) z ∙ sym z)
    (λ z. any_miss u (u + 1) f (omega arith) z ∙ (any_end (u + 1) (u + 1) f (omega arith) ∙ sym z)))

-- the values of the name before u, and what may be equal to them
module _ (p : Program) (flow : List ℕ) (w n q : ℕ) where
  unfoldable pub equals_before : ℕ → ℕ → Bool
  equals_before u v = any 0 u (λ x. member flow w n x && may_equal p v x)

  pub equals_begin : (u : List ℕ) → Joined w q (equals_before 0) u u
  unfolding equals_before
  equals_begin u = joined_there (equals_before 0) (λ v l z. true_false z (any_end 0 0 _ (omega arith)))

  pub equals_next : {u t t' : List ℕ} (x : ℕ) (b : Bool) → Joined w q (equals_before x) u t → b ≡ member flow w n x → b ≡ true → Joined w q (λ v. may_equal p v x) t t' → Joined w q (equals_before (x + 1)) u t'
  unfolding equals_before
  equals_next x b j e f more = joined_same (equals_before (x + 1))
      (λ v l. sym (any_last x _ ∙ ap (λ c. any 0 x (λ y. member flow w n y && may_equal p v y) || (c && may_equal p v x)) (sym e ∙ f)))
      (joined_more j more)

  pub equals_skip : {u t : List ℕ} (x : ℕ) (b : Bool) → Joined w q (equals_before x) u t → b ≡ member flow w n x → b ≡ false → Joined w q (equals_before (x + 1)) u t
  unfolding equals_before
  equals_skip x b j e f = joined_same (equals_before (x + 1))
      (λ v l. sym (any_last x _ ∙ (ap (λ c. any 0 x (λ y. member flow w n y && may_equal p v y) || (c && may_equal p v x)) (sym e ∙ f) ∙ or_none _))) j

  pub equals_alike : {u t : List ℕ} (x : ℕ) → Clear w (q + 1) u → Joined w q (equals_before x) u t → Alike p w q t
  unfolding equals_before
  equals_alike x clear j = record {
    alike = λ a b la lb c two there same.
        let (y, bound, z) = any_elim 0 x _ (sym (joined_here j clear a la) ∙ there) in
        joined_here j clear b lb ∙ any_intro 0 x y _ bound.0 bound.1
        (and_intro (member flow w n y) _ (and_left (member flow w n y) _ z) (equal_alike p a b y c (and_right (member flow w n y) _ z) same));
  }

  pub equals_over : (t : Tables) {u v : List ℕ} (x : ℕ) → Values t.flow n w n flow → x ≡ 64 * w → Joined w q (equals_before x) u v → Joined w q (does_equal_some p t n) u v
  unfolding equals_before does_equal_some
  equals_over t x of e j = joined_same (does_equal_some p t n) (λ y l. ap (λ k. any 0 k (λ z. member flow w n z && may_equal p y z)) e ∙ sym (some_set of (may_equal p y) _ (λ z m. refl))) j

-- the name that a held_name pattern reads, and its values
pub held_row : {ws : List ℕ} {s : Sizes} → Ready ws s → {flow may : List ℕ} {q : ℕ} → HeldName ws s flow may q → (n : ℕ) → n ≡ num (program ws s) q → Values (tables ws s).flow n (width s.rows) n flow
unfolding program columns
held_row {ws} {s} h {q = q} of n named = rw named (of.names.of_name (num (program ws s) q) (pattern_name (stands_from (rows_fit h) q of.low (let e = of.held in omega arith)) (inr of.held)))

module _ (ws : List ℕ) (s : Sizes) (flow : List ℕ) {u t : List ℕ} (w n q x : ℕ) (ew : w ≡ width s.rows) (j : Joined w q (equals_before (program ws s) flow w n q x) u t) where
  pub held_alike : Clear (width s.rows) (q + 1) u → Alike (program ws s) (width s.rows) q t
  held_alike clear = rw (← ew) (equals_alike (program ws s) flow w n q x (rw (← ew) at clear) j)

  pub held_over : Values (tables ws s).flow n (width s.rows) n flow → n ≡ num (program ws s) q → x ≡ 64 * w → Joined (width s.rows) q (does_equal_some (program ws s) (tables ws s) (num (program ws s) q)) u t
  held_over of named e = rw (← ew, ← named) (equals_over (program ws s) flow w n q (tables ws s) x (rw (← ew) at of) e j)
