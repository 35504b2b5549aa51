-- The code of a pattern with a set of values, by what the sets have in common.
use Prim.Native.Nat.{ℕ, zero, suc, ◌*◌}
use native.Mathlib.Omega.{arith}
use mathlib.Core.Path.{◌≡◌, refl, sym, ◌∙◌, ap, ap₂}
use mathlib.Core.Bool.{Bool, true, false, not, ◌&&◌}
use mathlib.Core.List.{List}
use mathlib.Core.Logic.{inl, inr}
use lib.Dec.{eqb}
use borrow.Author.Tests.{ne_eqb, not-true, not-false}
use Rattle.model.specs.Index.{implies, any, all}
use Rattle.model.specs.Words.{Columns}
use Rattle.model.specs.Rows.{Program, size, tag, num}
use Rattle.model.specs.Tables.{Tables, has, each, some_of}
use Rattle.model.specs.Closed.{may_match, names_hold}
use Rattle.model.proofs.Logic.{true_false, implies_intro, and_true, and_twice}
use Rattle.bits.specs.Bits.{member, shared, shared_held, common_code}
use Rattle.values.specs.Values.{width, Values}
use Rattle.values.proofs.Members.{at_each, some_set, each_set}
use Rattle.matching.specs.Patterns.{code, values_code, Pattern, Matched}
use Rattle.matching.proofs.Subpatterns.{pattern_deep}

held_there : (a may held : Bool) → implies (a && may) (may && held) ≡ implies a (implies may held)
unfolding implies
held_there true true held = refl
held_there true false held = refl
held_there false may held = refl

code_elim : (x y : Bool) → elim x [ false ↦ 0 | true ↦ elim y [ true ↦ 1 | false ↦ 2 ] ] ≡ code x y
unfolding code
code_elim true true = refl
code_elim true false = refl
code_elim false y = refl

-- a constructor pattern
module _ {p : Program} {t : Tables} {may held : List ℕ} {q : ℕ} (m : Matched p t may held q) (made : tag p q ≡ 31) {l : Columns} {a d k : ℕ} {sets : List ℕ} (of : Values l a (width (size p)) k sets) (h : Pattern p d q) where
  pub common_values : (c : ℕ) → c ≡ common_code sets may held (width (size p)) k q → c ≡ values_code p t l a d q
  unfolding common_code values_code shared shared_held
  common_values c e = e ∙ (code_elim _ _ ∙ ap₂ code
      (sym (some_set of (may_match p t d q) (shared sets may (width (size p)) k q) (λ v y. ap (λ z. member sets (width (size p)) k v && z) (m.may_set d v (inl made) h y))))
      (sym (each_set of (λ v. implies (may_match p t d q v) (names_hold p t d q v)) (shared_held sets may held (width (size p)) k q)
      (λ v y. ap₂ (λ z w. implies (member sets (width (size p)) k v && z) w) (m.may_set d v (inl made) h y) (m.held_set d v made h y) ∙ held_there (member sets (width (size p)) k v) _ _))))

-- the other patterns
module _ {p : Program} (t : Tables) {q : ℕ} (other : eqb (tag p q) 31 ≡ false) where
  held_name : (d v : ℕ) → Pattern p d q → names_hold p t d q v ≡ implies (eqb (tag p q) 30) (has t.flow (num p q) v)
  unfolding names_hold
  held_name zero v h = let z = pattern_deep h in absurd (omega arith)
  held_name (suc d) v h = rw (other, names_hold)

  module _ {l : Columns} {a d k : ℕ} {sets : List ℕ} (of : Values l a (width (size p)) k sets) (h : Pattern p d q) where
    leaf_code : (x y : Bool) → x ≡ some_of l a (may_match p t d q) → (x ≡ true → y ≡ each l a (λ v. implies (may_match p t d q v) (names_hold p t d q v))) → code x y ≡ values_code p t l a d q
    unfolding values_code code
    leaf_code true y e f = ap₂ code e (f refl)
    leaf_code false y e f = ap (λ z. code z (each l a (λ v. implies (may_match p t d q v) (names_hold p t d q v)))) e

    -- a held name binds nothing
    pub equal_values : {may held : List ℕ} → Matched p t may held q → tag p q ≡ 33 → (c : ℕ) → c ≡ code (any 0 (64 * width (size p)) (shared sets may (width (size p)) k q)) true → c ≡ values_code p t l a d q
    unfolding shared implies
    equal_values {may} m same c e = e ∙ leaf_code (any 0 (64 * width (size p)) (shared sets may (width (size p)) k q)) true
        (sym (some_set of (may_match p t d q) (shared sets may (width (size p)) k q) (λ v y. ap (λ z. member sets (width (size p)) k v && z) (m.may_set d v (inr same) h y))))
        (λ z. sym (at_each l a _ (λ v i. implies_intro (may_match p t d q v) (names_hold p t d q v) (λ b. held_name d v h ∙ rw (ne_eqb (tag p q) 30 (λ y. omega arith))))))

    -- a name bound and any value: they may match everything
    module _ (unheld : eqb (tag p q) 33 ≡ false) where
      may_all : (e v : ℕ) → Pattern p e q → may_match p t e q v ≡ true
      unfolding may_match implies
      may_all zero v g = refl
      may_all (suc e) v g = rw (other, may_match, unheld)

      some_leaf : (b : Bool) → b ≡ any 0 (64 * width (size p)) (λ v. member sets (width (size p)) k v && member sets (width (size p)) k v) → b ≡ some_of l a (may_match p t d q)
      some_leaf b e = e ∙ sym (some_set of (may_match p t d q) _ (λ v y. and_twice (member sets (width (size p)) k v) ∙ (sym (and_true (member sets (width (size p)) k v)) ∙ ap (λ z. member sets (width (size p)) k v && z) (sym (may_all d v h)))))

      pub no_values : (b : Bool) → b ≡ any 0 (64 * width (size p)) (λ v. member sets (width (size p)) k v && member sets (width (size p)) k v) → not b ≡ true → 0 ≡ values_code p t l a d q
      unfolding code
      no_values b e f = leaf_code false true (sym (not-true b f) ∙ some_leaf b e) (λ z. true_false z refl)

      pub any_values : (b : Bool) → b ≡ any 0 (64 * width (size p)) (λ v. member sets (width (size p)) k v && member sets (width (size p)) k v) → not b ≡ false → (tag p q ≡ 30 → ⊥) → 1 ≡ values_code p t l a d q
      unfolding code implies
      any_values b e f ne = leaf_code true true (sym (not-false b f) ∙ some_leaf b e)
          (λ z. sym (at_each l a _ (λ v m. ap₂ implies (may_all d v h) (held_name d v h ∙ rw (ne_eqb (tag p q) 30 ne)))))

      pub named_values : (flow : List ℕ) → Values t.flow (num p q) (width (size p)) (num p q) flow → (b c : Bool) → b ≡ any 0 (64 * width (size p)) (λ v. member sets (width (size p)) k v && member sets (width (size p)) k v) → not b ≡ false → tag p q ≡ 30
          → c ≡ all 0 (64 * width (size p)) (λ v. implies (member sets (width (size p)) k v) (member flow (width (size p)) (num p q) v)) → code true c ≡ values_code p t l a d q
      unfolding implies
      named_values flow held b c e f same g = leaf_code true c (sym (not-false b f) ∙ some_leaf b e)
          (λ z. g ∙ sym (each_set of (λ v. implies (may_match p t d q v) (names_hold p t d q v)) _
          (λ v y. ap (implies (member sets (width (size p)) k v)) (held.holds v y ∙ sym (ap₂ implies (may_all d v h) (held_name d v h ∙ rw same))))))
