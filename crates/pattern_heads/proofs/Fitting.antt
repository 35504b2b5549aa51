-- Which values a pattern may match, and which heads fit it, by the sets that the code reads.
use Prim.Native.Nat.{ℕ, ◌+◌, ◌*◌, ◌-◌, ◌≤◌, ◌<◌}
use native.Mathlib.Omega.{arith}
use mathlib.Core.Path.{◌≡◌, refl, sym, ◌∙◌, ap}
use mathlib.Core.Bool.{Bool, true, false, ◌&&◌}
use mathlib.Core.List.{List}
use mathlib.Core.Logic.{◌↔◌, ◌⊎◌, inl, inr, ⊎_elim}
use lib.Dec.{eqb}
use borrow.Author.Tests.{eqb-true, eq-eqb, ne_eqb}
use Rattle.bits.specs.Bits.{member, Row}
use Rattle.model.specs.declared.Sizes.{Sizes}
use Rattle.model.specs.Limits.{max_depth}
use Rattle.model.specs.Index.{implies, first}
use Rattle.model.specs.Words.{columns}
use Rattle.model.specs.Rows.{Program, program, size, tag, num, arity}
use Rattle.model.specs.Heads.{is_class_of, is_function}
use Rattle.model.specs.Letters.{head, head_count, row_shape, row_head_of}
use Rattle.model.specs.Tables.{Tables, tables, has}
use Rattle.model.specs.Wanted.{Member}
use Rattle.model.specs.Closed.{is_same_constructor, may_equal, may_match, may_take}
use Rattle.model.proofs.Logic.{test, true_false, and_left, and_right, and_intro, or_cases, or_left, or_right, both}
use Rattle.model.proofs.Rows.{program_end}
use Rattle.model.proofs.Index.{all_end}
use Rattle.model.proofs.Exact.Members.{has_iff, some_of_iff}
use Rattle.model.proofs.Numbering.Choices.{built_head}
use Rattle.lists.specs.Ready.{Ready}
use Rattle.values.proofs.Gathered.{width_above}
use Rattle.matching.specs.Patterns.{Pattern, does_equal_some}
use Rattle.matching.proofs.Chains.{made_low}
use Rattle.system_letters.specs.Letters.{NameHeads}
use Rattle.system_letters.proofs.Tables.{head_low}
use Rattle.matching.proofs.Subpatterns.{pattern_within, pattern_name, pattern_constructor}
use Rattle.pattern_heads.specs.Fitting.{begins, does_value_fit, does_head_fit, has_head, MatchTables}

-- heads of rows
module _ (p : Program) where
  head_of_built : (v : ℕ) → row_head_of p v < p.constructors → tag p v ≡ 2
  unfolding row_head_of row_shape head
  head_of_built v low = test (eqb (tag p v) 2) (λ z. eqb-true (tag p v) 2 z)
      (λ z. absurd (test (is_function p v) (λ y. let x : p.constructors < p.constructors = rw (z, row_shape, y) at low in omega arith)
      (λ y. let x : p.constructors + 1 < p.constructors = rw (z, row_shape, y) at low in omega arith)))

  -- a class is neither built nor a function
  class_tag : tag p (size p) ≡ 0 → (v : ℕ) → is_class_of p v ≡ true → (tag p v ≡ 6) ⊎ (tag p v ≡ 0)
  unfolding is_class_of
  class_tag end v c = ⊎_elim (λ z. inl (eqb-true (tag p v) 6 z)) (λ z. inr (ap (tag p) (eqb-true v (size p) z) ∙ end)) (or_cases (eqb (tag p v) 6) (eqb v (size p)) c)

  class_not_built : tag p (size p) ≡ 0 → (v : ℕ) → is_class_of p v ≡ true → tag p v ≡ 2 → ⊥
  class_not_built end v c e = ⊎_elim (λ z. omega arith) (λ z. omega arith) (class_tag end v c)

  class_head : tag p (size p) ≡ 0 → (v : ℕ) → is_class_of p v ≡ true → row_head_of p v ≡ p.constructors + 1
  unfolding row_head_of row_shape head is_function
  class_head end v c =
      let t : (k : ℕ) → (k ≡ 6 → ⊥) → (k ≡ 0 → ⊥) → eqb (tag p v) k ≡ false = λ k a b. ne_eqb (tag p v) k (λ z. ⊎_elim (λ y. a (sym z ∙ y)) (λ y. b (sym z ∙ y)) (class_tag end v c)) in
      rw (row_shape, t 2 (λ z. omega arith) (λ z. omega arith), is_function, t 3 (λ z. omega arith) (λ z. omega arith), t 11 (λ z. omega arith) (λ z. omega arith))

-- values that may be equal to those of a name
module _ {ws : List ℕ} {s : Sizes} (h : Ready ws s) where
  abbrev p : Program
  p = program ws s

  abbrev t : Tables
  t = tables ws s

  row_end : tag p (size p) ≡ 0
  row_end = program_end ws s (size p) (omega arith)

  -- two build rows of one head may be equal, and a value of such a head equals no other
  equal_heads : (v u : ℕ) → row_head_of p v < p.constructors → row_head_of p u ≡ row_head_of p v → may_equal p v u ≡ true
  unfolding may_equal is_same_constructor
  equal_heads v u low e =
      let a = head_of_built p v low in
      let b = head_of_built p u (omega arith) in
      let x = built_head p t v a in
      let y = built_head p t u b in
      or_right (is_class_of p v && eqb v u) _ (and_intro (eqb (tag p u) 2) _ (eq-eqb (tag p u) 2 b)
      (and_intro (eqb (tag p v) 2) _ (eq-eqb (tag p v) 2 a) (eq-eqb (num p (v + 1)) (num p (u + 1)) (omega arith))))

  same_heads : (v u : ℕ) → tag p v ≡ 2 → may_equal p v u ≡ true → row_head_of p u ≡ row_head_of p v
  unfolding may_equal is_same_constructor
  same_heads v u a may =
      ⊎_elim
      (λ z. absurd (class_not_built p row_end v (and_left (is_class_of p v) (eqb v u) z) a))
      (λ z.
      let b = eqb-true (tag p u) 2 (and_left (eqb (tag p u) 2) _ z) in
      let c = eqb-true (num p (v + 1)) (num p (u + 1)) (and_right (eqb (tag p v) 2) _ (and_right (eqb (tag p u) 2) _ z)) in
      built_head p t u b ∙ (sym c ∙ sym (built_head p t v a)))
      (or_cases (is_class_of p v && eqb v u) _ may)

  -- what is not built equals only itself, and that only where it is a class
  class_equal : (v u : ℕ) → (tag p v ≡ 2 → ⊥) → may_equal p v u ≡ true → (is_class_of p v ≡ true) × (v ≡ u)
  unfolding may_equal is_same_constructor
  class_equal v u ne may =
      ⊎_elim
      (λ z. (and_left (is_class_of p v) (eqb v u) z, eqb-true v u (and_right (is_class_of p v) (eqb v u) z)))
      (λ z. absurd (ne (eqb-true (tag p v) 2 (and_left (eqb (tag p v) 2) _ (and_right (eqb (tag p u) 2) _ z)))))
      (or_cases (is_class_of p v && eqb v u) _ may)

  equals_iff : (k v : ℕ) → (does_equal_some p t k v ≡ true) ↔ ((u : ℕ) × Member t.flow k u × (may_equal p v u ≡ true))
  unfolding does_equal_some
  equals_iff k v = some_of_iff t.flow k (may_equal p v) (λ u. (λ z. z, λ z. z))

  pub equals_class : (k v : ℕ) (b : Bool) → is_class_of p v ≡ true → b ≡ has t.flow k v → b ≡ does_equal_some p t k v
  unfolding may_equal
  equals_class k v b c e = e ∙ both (has t.flow k v) (does_equal_some p t k v)
      (λ z. (equals_iff k v).1 (v, (has_iff t.flow k v).0 z, or_left (is_class_of p v && eqb v v) _ (and_intro (is_class_of p v) (eqb v v) c (eq-eqb v v refl))))
      (λ z. let (u, m, y) = (equals_iff k v).0 z in
      let same = (class_equal v u (class_not_built p row_end v c) y).1 in
      (has_iff t.flow k v).1 (record { at = m.at; below = m.below; first = m.first; second = m.second ∙ sym same }))

  pub equals_none : (k v x : ℕ) → x ≡ tag p v → (x ≡ 2 → ⊥) → (b : Bool) → b ≡ is_class_of p v → b ≡ false → false ≡ does_equal_some p t k v
  equals_none k v x e ne b f g = sym (test (does_equal_some p t k v)
      (λ z. let (u, m, y) = (equals_iff k v).0 z in true_false (class_equal v u (λ q. ne (e ∙ q)) y).0 (sym f ∙ g)) (λ z. z))

  pub equals_built : {names : List ℕ} → NameHeads p t names → (k v g x : ℕ) (b : Bool) → k < s.names → x ≡ tag p v → x ≡ 2 → g ≡ row_head_of p v → b ≡ member names 2 k g → b ≡ does_equal_some p t k v
  unfolding head_count program
  equals_built heads k v g x b low e two f m =
      let made : tag p v ≡ 2 = sym e ∙ two in
      let under : row_head_of p v < p.constructors = let z = made_low h v x (num p (v + 1)) e two refl in let y = built_head p t v made in omega arith in
      m ∙ (rw f (heads.has k (row_head_of p v) low (omega arith)) ∙ both _ _
      (λ z. let (u, o, y) = (some_of_iff t.flow k (λ w. eqb (row_head_of p w) (row_head_of p v)) (λ w. (λ z. z, λ z. z))).0 z in
      (equals_iff k v).1 (u, o, equal_heads v u under (eqb-true _ _ y)))
      (λ z. let (u, o, y) = (equals_iff k v).0 z in
      (some_of_iff t.flow k (λ w. eqb (row_head_of p w) (row_head_of p v)) (λ w. (λ z. z, λ z. z))).1 (u, o, eq-eqb _ _ (same_heads v u made y))))

  pub head_small : (v g : ℕ) → g ≡ row_head_of p v → g < 64 * 2
  unfolding head_count program
  head_small v g e = omega (arith, head_low h v, h.limits.constructors)

  -- what a branch may take, by the tag of its pattern
  module _ (q v x : ℕ) (e : x ≡ tag p q) where
    pub begins_made : (b : Bool) → x ≡ 31 → b ≡ is_same_constructor p q v → b ≡ begins p t q v
    unfolding begins
    begins_made b z f = f ∙ rw (begins, eq-eqb (tag p q) 31 (sym e ∙ z))

    -- where it is no constructor's
    begins_taken : (x ≡ 31 → ⊥) → may_take p t q v ≡ begins p t q v
    unfolding begins
    begins_taken a = rw (begins, ne_eqb (tag p q) 31 (λ y. a (e ∙ y)))

    taken_held : tag p q ≡ 33 → does_equal_some p t (num p q) v ≡ may_take p t q v
    unfolding may_take may_match implies does_equal_some
    taken_held z = sym (rw (ne_eqb (tag p q) 31 (λ y. omega arith), may_match, eq-eqb (tag p q) 33 z))

    taken_any : (tag p q ≡ 31 → ⊥) → (tag p q ≡ 33 → ⊥) → true ≡ may_take p t q v
    unfolding may_take may_match implies
    taken_any ne other = rw (ne_eqb (tag p q) 31 ne, may_match, ne_eqb (tag p q) 33 other)

    pub begins_held : (k : ℕ) (b : Bool) → x ≡ 33 → k ≡ num p q → b ≡ does_equal_some p t k v → b ≡ begins p t q v
    begins_held k b z f g = (rw f at g) ∙ (taken_held (sym e ∙ z) ∙ begins_taken (λ y. omega arith))

    pub begins_any : (x ≡ 31 → ⊥) → (x ≡ 33 → ⊥) → true ≡ begins p t q v
    begins_any a b = taken_any (λ y. a (e ∙ y)) (λ y. b (e ∙ y)) ∙ begins_taken a

  -- a build row of the constructor, by what the code finds
  pub same_built : (q v x a b : ℕ) → x ≡ tag p v → x ≡ 2 → a ≡ num p (v + 1) → b ≡ num p q → eqb a b ≡ is_same_constructor p q v
  unfolding is_same_constructor
  same_built q v x a b e z f g = rw (eq-eqb (tag p v) 2 (sym e ∙ z), f, g)

  pub same_other : (q v x : ℕ) → x ≡ tag p v → (x ≡ 2 → ⊥) → false ≡ is_same_constructor p q v
  unfolding is_same_constructor
  same_other q v x e z = rw (ne_eqb (tag p v) 2 (λ y. z (e ∙ y)))

-- the heads that fit the subpattern at row q
module _ {ws : List ℕ} {s : Sizes} {w : ℕ} {fitting names : List ℕ} (g : MatchTables ws s w fitting names) (q n h : ℕ) (stands : Pattern (program ws s) (max_depth - 1) q) (low : n < s.names) where
  abbrev p' : Program
  p' = program ws s

  abbrev t' : Tables
  t' = tables ws s

  fits_iff : (does_head_fit p' t' n q h ≡ true) ↔ ((v : ℕ) × Member t'.flow n v × ((row_head_of p' v ≡ h) × (may_match p' t' (max_depth - 1) q v ≡ true)))
  unfolding does_head_fit does_value_fit
  fits_iff = some_of_iff t'.flow n (λ v. eqb (row_head_of p' v) h && may_match p' t' (max_depth - 1) q v) (λ v. (
    λ z. (eqb-true (row_head_of p' v) h (and_left (eqb (row_head_of p' v) h) _ z), and_right (eqb (row_head_of p' v) h) _ z),
    λ z. and_intro (eqb (row_head_of p' v) h) _ (eq-eqb (row_head_of p' v) h z.0) z.1,
  ))

  none_fits : ((v : ℕ) → row_head_of p' v ≡ h → may_match p' t' (max_depth - 1) q v ≡ true → ⊥) → false ≡ does_head_fit p' t' n q h
  none_fits never = sym (test (does_head_fit p' t' n q h) (λ z. let (v, m, y) = fits_iff.0 z in absurd (never v y.0 y.1)) (λ z. z))

  -- the set of the pattern
  pub fitting_room : (n < 64 * w) × Row fitting w q
  unfolding program columns
  fitting_room = (rw g.name_width (width_above s.names n (omega arith)), rw g.name_width (g.fitting_sets_of.row q (pattern_within stands)))

  module _ (made : tag p' q ≡ 31) where
    -- a constructor pattern matches values of one head
    made_head : (v : ℕ) → may_match p' t' (max_depth - 1) q v ≡ true → row_head_of p' v ≡ num p' q
    unfolding may_match is_same_constructor
    made_head v e =
        let same = and_left (eqb (tag p' v) 2 && eqb (num p' (v + 1)) (num p' q)) _ (rw (eq-eqb (tag p' q) 31 made, may_match) at e) in
        built_head p' t' v (eqb-true _ _ (and_left (eqb (tag p' v) 2) _ same)) ∙ eqb-true _ _ (and_right (eqb (tag p' v) 2) _ same)

    pub fits_made : (k a : ℕ) (b : Bool) → h ≡ k → k ≡ num p' q → a ≡ num p' k → (a ≡ 0 → ⊥) → b ≡ member fitting w q n → b ≡ does_head_fit p' t' n q h
    unfolding arity program columns
    fits_made k a b e f c some met = (rw g.name_width at met) ∙ (g.fitting_sets_of.made (max_depth - 1) q n (pattern_within stands) made (let z = c ∙ ap (num p') f in omega arith) stands low ∙ both _ _
        (λ z. let (v, m, y) = (some_of_iff t'.flow n (may_match p' t' (max_depth - 1) q) (λ v. (λ x. x, λ x. x))).0 z in fits_iff.1 (v, m, (made_head v y ∙ sym (e ∙ f), y)))
        (λ z. let (v, m, y) = fits_iff.0 z in (some_of_iff t'.flow n (may_match p' t' (max_depth - 1) q) (λ v. (λ x. x, λ x. x))).1 (v, m, y.1)))

    -- without arguments every value of the constructor matches
    pub fits_bare : (k a : ℕ) → h ≡ k → k ≡ num p' q → a ≡ num p' k → a ≡ 0 → has_head p' t' n h ≡ true → true ≡ does_head_fit p' t' n q h
    unfolding has_head may_match is_same_constructor arity program
    fits_bare k a e f c none has =
        let (v, m, y) = (some_of_iff t'.flow n (λ v. eqb (row_head_of p' v) h) (λ v. (λ x. x, λ x. x))).0 has in
        let r = eqb-true (row_head_of p' v) h y in
        let low = pattern_constructor (record { depth = max_depth - 1; stands = stands }) made in
        let two = head_of_built p' v (omega arith) in
        let x = built_head p' t' v two in
        sym (fits_iff.1 (
          v,
          m,
          (
            r,
            rw (may_match, eq-eqb (tag p' q) 31 made) (and_intro (eqb (tag p' v) 2 && eqb (num p' (v + 1)) (num p' q)) _
                (and_intro (eqb (tag p' v) 2) _ (eq-eqb (tag p' v) 2 two) (eq-eqb (num p' (v + 1)) (num p' q) (omega arith)))
                (all_end 0 (num p' (num p' q)) _ (let z = c ∙ ap (num p') f in omega arith))),
          ),
        ))

    pub fits_other : (k : ℕ) → k ≡ num p' q → (h ≡ k → ⊥) → false ≡ does_head_fit p' t' n q h
    fits_other k e ne = none_fits (λ v a b. ne (sym a ∙ (made_head v b ∙ sym e)))

  module _ (held : tag p' q ≡ 33) where
    -- a held name matches values that may equal one of its own
    held_match : (v : ℕ) → may_match p' t' (max_depth - 1) q v ≡ does_equal_some p' t' (num p' q) v
    unfolding may_match implies does_equal_some
    held_match v = rw (ne_eqb (tag p' q) 31 (λ z. omega arith), may_match, eq-eqb (tag p' q) 33 held)

    pub held_low : num p' q < s.names
    unfolding program
    held_low = pattern_name (record { depth = max_depth - 1; stands = stands }) (inr held)

    pub fits_held : (k : ℕ) (b : Bool) → has_head p' t' n h ≡ true → h < s.constructors → k ≡ num p' q → b ≡ member names 2 k h → b ≡ does_head_fit p' t' n q h
    unfolding has_head head_count program
    fits_held k b has small e f = f ∙ (rw e (g.name_heads.has (num p' q) h held_low (omega arith)) ∙ both _ _
        (λ z.
        let (u, m, x) = (some_of_iff t'.flow (num p' q) (λ v. eqb (row_head_of p' v) h) (λ v. (λ y. y, λ y. y))).0 z in
        let (v, o, y) = (some_of_iff t'.flow n (λ v. eqb (row_head_of p' v) h) (λ v. (λ y. y, λ y. y))).0 has in
        let r = eqb-true (row_head_of p' v) h y in
        fits_iff.1 (v, o, (r, held_match v ∙ (equals_iff g.ready (num p' q) v).1 (u, m, equal_heads g.ready v u (omega arith) (eqb-true (row_head_of p' u) h x ∙ sym r)))))
        (λ z.
        let (v, o, y) = fits_iff.0 z in
        let (u, m, x) = (equals_iff g.ready (num p' q) v).0 (sym (held_match v) ∙ y.1) in
        let r = y.0 in
        (some_of_iff t'.flow (num p' q) (λ v. eqb (row_head_of p' v) h) (λ v. (λ y. y, λ y. y))).1 (u, m, eq-eqb (row_head_of p' u) h (same_heads g.ready v u (head_of_built p' v (omega arith)) x ∙ r))))

    -- what a held name matches and is not built is a class
    held_class : (v : ℕ) → s.constructors ≤ h → row_head_of p' v ≡ h → may_match p' t' (max_depth - 1) q v ≡ true → is_class_of p' v ≡ true
    unfolding program
    held_class v above r y =
        let (u, m, x) = (equals_iff g.ready (num p' q) v).0 (sym (held_match v) ∙ y) in
        (class_equal g.ready v u (λ two. let z = made_low g.ready v (tag p' v) (num p' (v + 1)) refl two refl in let e = built_head p' t' v two in omega arith) x).0

    pub fits_function : h ≡ s.constructors → false ≡ does_head_fit p' t' n q h
    unfolding program
    fits_function e = none_fits (λ v r y. let c = class_head p' (row_end g.ready) v (held_class v (omega arith) r y) in omega arith)

    pub fits_class : (b : Bool) → h ≡ s.constructors + 1 → b ≡ member fitting w q n → b ≡ does_head_fit p' t' n q h
    unfolding program columns
    fits_class b e met = (rw g.name_width at met) ∙ (g.fitting_sets_of.held (max_depth - 1) q n (pattern_within stands) held stands low ∙ both _ _
        (λ z. let (v, m, y) = (some_of_iff t'.flow n (λ v. may_match p' t' (max_depth - 1) q v && is_class_of p' v) (λ v. (λ x. x, λ x. x))).0 z in
        fits_iff.1 (v, m, (class_head p' (row_end g.ready) v (and_right (may_match p' t' (max_depth - 1) q v) _ y) ∙ sym e, and_left (may_match p' t' (max_depth - 1) q v) _ y)))
        (λ z. let (v, m, y) = fits_iff.0 z in
        (some_of_iff t'.flow n (λ v. may_match p' t' (max_depth - 1) q v && is_class_of p' v) (λ v. (λ x. x, λ x. x))).1 (v, m, and_intro (may_match p' t' (max_depth - 1) q v) _ y.1 (held_class v (omega arith) y.0 y.1))))

-- the held name at row q, and the room for its heads
pub name_low : (ws : List ℕ) (s : Sizes) (d q k : ℕ) → Pattern (program ws s) d q → tag (program ws s) q ≡ 33 → k ≡ num (program ws s) q → k < s.names
unfolding program
name_low ws s d q k stands held e = let z = pattern_name (record { depth = d; stands = stands }) (inr held) in omega arith

pub heads_row : (ws : List ℕ) (s : Sizes) (names : List ℕ) → NameHeads (program ws s) (tables ws s) names → (k : ℕ) → k < s.names → Row names 2 k
unfolding program
heads_row ws s names heads k low = record { room = omega (arith, heads.room) }

-- a pattern that asks and is no constructor's is a held name
pub asked_held : (p : Program) (q x : ℕ) → x ≡ tag p q → (x ≡ 31 → ⊥) → (tag p q ≡ 31) ⊎ (tag p q ≡ 33) → tag p q ≡ 33
asked_held p q x e f c = ⊎_elim (λ z. absurd (f (e ∙ z))) (λ z. z) c

-- the room for a head of a name
module _ {ws : List ℕ} {s : Sizes} {w : ℕ} {fitting names : List ℕ} (g : MatchTables ws s w fitting names) (n h : ℕ) (low : n < s.names) (small : h < s.constructors + 2) where
  pub head_room : (h < 64 * 2) × Row names 2 n
  unfolding program
  head_room = (omega (arith, g.ready.limits.constructors), record { room = omega (arith, g.name_heads.room) })
