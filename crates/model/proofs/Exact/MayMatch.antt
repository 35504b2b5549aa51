-- What a pattern may match, and what its names then hold: the tests say what specs/Wanted.antt says.
use Prim.Native.Nat.{ℕ, zero, suc, ◌+◌}
use mathlib.Core.Path.{◌≡◌, refl, sym, ◌∙◌, ap₂}
use mathlib.Core.Bool.{Bool, true, false, ◌&&◌}
use mathlib.Core.Logic.Iff
use mathlib.Core.Logic.{◌↔◌}
use lib.Dec.{eqb}
use Rattle.model.specs.Rows.{Program, tag, num, arity}
use Rattle.model.specs.Heads.{is_class_of}
use Rattle.model.specs.Tables.{Tables, has}
use Rattle.model.specs.Closed.{subpattern, argument, is_same_constructor, may_equal, may_match, names_hold}
use Rattle.model.specs.Wanted.{MayEqual, MayMatch, AtSpot, Entry, flow}
use Rattle.model.proofs.Exact.Tests.{eqb_iff, and_iff, or_iff, implies_iff, all_iff}
use Rattle.model.proofs.Exact.Members.{some_of_iff}
use Rattle.model.proofs.Exact.Finds.{Finds, finds_map, finds_none, finds_flow, finds_where, finds_all, finds_each}

-- of a choice by a test: what is so on each side
choice_iff : (b x y : Bool) {X Y : Type 0} → (x ≡ true) ↔ X → (y ≡ true) ↔ Y → (◌≡◌ {A = Bool} (elim b [ true ↦ x | false ↦ y ]) true) ↔ (elim b as (λ z. Type 0) [ true ↦ X | false ↦ Y ])
choice_iff true x y e f = e
choice_iff false x y e f = f

-- a name holds a value where this is so
abbrev pub Held : (ℕ → ℕ → Type 0) → Entry → Type 0
Held S e = (n : ℕ) × (w : ℕ) × S n w × (e ≡ flow n w)

finds_choice : (t : Tables) (b x y : Bool) {X Y : ℕ → ℕ → Type 0} → Finds t x (Held X) → Finds t y (Held Y) → Finds t (elim b [ true ↦ x | false ↦ y ]) (Held (λ n w. elim b as (λ z. Type 0) [ true ↦ X n w | false ↦ Y n w ]))
finds_choice t true x y f g = f
finds_choice t false x y f g = g

module _ (p : Program) (t : Tables) where
  -- what a held name may be equal to
  may_equal_iff : (v w : ℕ) → (may_equal p v w ≡ true) ↔ MayEqual p v w
  unfolding may_equal
  may_equal_iff v w =
      or_iff (is_class_of p v && eqb v w) _ (and_iff (is_class_of p v) (eqb v w) Iff.rfl (eqb_iff v w))
      (and_iff (eqb (tag p w) 2) (is_same_constructor p (w + 1) v) (eqb_iff (tag p w) 2) Iff.rfl)

  pub may_match_iff : (d q v : ℕ) → (may_match p t d q v ≡ true) ↔ MayMatch p t d q v
  unfolding may_match
  may_match_iff zero q v = (λ h. tt, λ h. refl)
  may_match_iff (suc d) q v =
      choice_iff (eqb (tag p q) 31) _ _
      (and_iff (is_same_constructor p q v) _ Iff.rfl
      (all_iff (arity p (num p q)) _ (λ i. some_of_iff t.flow (argument p v i) (may_match p t d (subpattern p (suc d) q i)) (may_match_iff d (subpattern p (suc d) q i)))))
      (implies_iff (eqb (tag p q) 33) _ (eqb_iff (tag p q) 33) (some_of_iff t.flow (num p q) (may_equal p v) (may_equal_iff v)))

  pub finds_names : (d q v : ℕ) → Finds t (names_hold p t d q v) (Held (AtSpot p t d q v))
  unfolding names_hold
  finds_names zero q v = finds_none t (λ e x. x.2)
  finds_names (suc d) q v =
      finds_choice t (eqb (tag p q) 31) _ _
      (finds_map t (λ e x. let (i, b, y) = x in let (u, m, z) = y in let (n, w, s, k) = z.1 in (n, w, (i, b, (u, m, z.0, s)), k))
      (λ e x. let (n, w, y, k) = x in let (i, b, z) = y in let (u, m, may, s) = z in (i, b, (u, m, (may, (n, w, s, k)))))
      (finds_all t (arity p (num p q)) _
      (λ i. finds_each t t.flow (argument p v i) _
      (λ u. finds_where t (may_match p t d (subpattern p (suc d) q i) u) (names_hold p t d (subpattern p (suc d) q i) u)
      (may_match_iff d (subpattern p (suc d) q i) u) (finds_names d (subpattern p (suc d) q i) u)))))
      (finds_map t (λ e x. (num p q, v, (x.0, refl, refl), x.1)) (λ e x. let (n, w, y, k) = x in (y.0, k ∙ sym (ap₂ flow y.1 y.2)))
      (finds_where t (eqb (tag p q) 30) (has t.flow (num p q) v) (eqb_iff (tag p q) 30) (finds_flow t (num p q) v)))
