-- What a set of values tells of the list that it is of: some value, and each.
use Prim.Native.Nat.{ℕ, ◌*◌, ◌<◌}
use native.Mathlib.Omega.{arith}
use mathlib.Core.Path.{◌≡◌, refl, sym, ◌∙◌, ap}
use mathlib.Core.Bool.{Bool, true, false, ◌&&◌}
use mathlib.Core.List.{List}
use mathlib.Core.Logic.Iff
use lib.Dec.{eqb}
use borrow.Author.Tests.{eqb-true, eq-eqb}
use Rattle.model.specs.Index.{implies, any, all}
use Rattle.model.specs.Words.{Columns, left, right}
use Rattle.model.specs.Tables.{has, each, some_of}
use Rattle.model.specs.Wanted.{Member}
use Rattle.model.proofs.Logic.{true_false, test, and_left, and_right, and_intro, implies_elim, implies_intro, both, and_true, and_twice}
use Rattle.model.proofs.Index.{any_elim, any_intro, all_elim, all_intro}
use Rattle.model.proofs.Exact.Members.{has_iff, some_of_iff}
use Rattle.bits.specs.Bits.{member}
use Rattle.values.specs.Values.{Values}

module _ (l : Columns) (a : ℕ) where
  -- what each value has
  pub each_at : (f : ℕ → Bool) → each l a f ≡ true → (v : ℕ) → Member l a v → f v ≡ true
  unfolding each
  each_at f h v m =
      sym (ap f m.second) ∙
      implies_elim (eqb (left l m.at) a) (f (right l m.at))
      (all_elim 0 l.size m.at (λ i. implies (eqb (left l i) a) (f (right l i))) h (omega arith) m.below) (eq-eqb (left l m.at) a m.first)

  pub at_each : (f : ℕ → Bool) → ((v : ℕ) → Member l a v → f v ≡ true) → each l a f ≡ true
  unfolding each
  at_each f h =
      all_intro 0 l.size (λ i. implies (eqb (left l i) a) (f (right l i)))
      (λ i x y. implies_intro (eqb (left l i) a) (f (right l i)) (λ e. h (right l i) (record { at = i; below = y; first = eqb-true (left l i) a e; second = refl })))

  -- the same test by another name
  pub each_same : (f g : ℕ → Bool) → ((v : ℕ) → Member l a v → f v ≡ g v) → each l a f ≡ each l a g
  each_same f g h = both (each l a f) (each l a g)
      (λ z. at_each g (λ v m. sym (h v m) ∙ each_at f z v m))
      (λ z. at_each f (λ v m. h v m ∙ each_at g z v m))

  pub each_none : (f : ℕ → Bool) → some_of l a f ≡ false → (v : ℕ) → Member l a v → f v ≡ false
  each_none f h v m = test (f v) (λ z. true_false ((some_of_iff l a f (λ w. Iff.rfl)).1 (v, m, z)) h) (λ z. z)

module _ {l : Columns} {a w k : ℕ} {sets : List ℕ} (of : Values l a w k sets) where
  member_low : (v : ℕ) → Member l a v → v < 64 * w
  member_low v m = let z = of.below m.at m.below in let y = m.second in omega arith

  member_in : (v : ℕ) → Member l a v → member sets w k v ≡ true
  member_in v m = of.holds v (member_low v m) ∙ (has_iff l a v).1 m

  -- g tells of each number what f tells of the values in the set
  pub some_set : (f g : ℕ → Bool) → ((v : ℕ) → v < 64 * w → g v ≡ (member sets w k v && f v)) → some_of l a f ≡ any 0 (64 * w) g
  some_set f g same = both (some_of l a f) (any 0 (64 * w) g)
      (λ z. let (v, m, y) = (some_of_iff l a f (λ x. Iff.rfl)).0 z in
      any_intro 0 (64 * w) v g (omega arith) (member_low v m) (same v (member_low v m) ∙ and_intro (member sets w k v) (f v) (member_in v m) y))
      (λ z. let (v, b, y) = any_elim 0 (64 * w) g z in
      let both_hold = sym (same v b.1) ∙ y in
      (some_of_iff l a f (λ x. Iff.rfl)).1
      (v, (has_iff l a v).0 (sym (of.holds v b.1) ∙ and_left (member sets w k v) (f v) both_hold), and_right (member sets w k v) (f v) both_hold))

  pub each_set : (f g : ℕ → Bool) → ((v : ℕ) → v < 64 * w → g v ≡ implies (member sets w k v) (f v)) → each l a f ≡ all 0 (64 * w) g
  each_set f g same = both (each l a f) (all 0 (64 * w) g)
      (λ z. all_intro 0 (64 * w) g (λ v x y. same v y ∙ implies_intro (member sets w k v) (f v) (λ m. each_at l a f z v ((has_iff l a v).0 (sym (of.holds v y) ∙ m)))))
      (λ z. at_each l a f (λ v m. implies_elim (member sets w k v) (f v) (sym (same v (member_low v m)) ∙ all_elim 0 (64 * w) v g z (omega arith) (member_low v m)) (member_in v m)))

  -- within: each value is one of the other's
  pub each_within : {l' : Columns} {a' k' : ℕ} {sets' : List ℕ} → Values l' a' w k' sets' → (b : Bool) → b ≡ all 0 (64 * w) (λ v. implies (member sets w k v) (member sets' w k' v)) → b ≡ each l a (has l' a')
  each_within {l'} {a'} {k'} {sets'} of' b e = e ∙ sym (each_set (has l' a') _ (λ v y. ap (implies (member sets w k v)) (of'.holds v y)))

  -- a set that meets itself has a value
  pub some_meets : (b : Bool) → b ≡ any 0 (64 * w) (λ v. member sets w k v && member sets w k v) → b ≡ some_of l a (λ v. true)
  some_meets b e = e ∙ sym (some_set (λ v. true) _ (λ v y. and_twice (member sets w k v) ∙ sym (and_true (member sets w k v))))
