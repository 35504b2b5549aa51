-- Refusals 4 and 5, and with 3 the whole program: nothing is refused exactly where it is well formed.
use Prim.Native.Nat.{ℕ, ◌<◌}
use native.Mathlib.Decide.{dec_lt}
use native.Mathlib.Omega.{arith}
use mathlib.Core.Path.{◌≡◌, sym, ◌∙◌, subst}
use mathlib.Core.Bool.{true, false, not, ◌&&◌}
use mathlib.Core.Logic.Iff
use mathlib.Core.Logic.{◌↔◌}
use mathlib.Core.Option.{none}
use lib.Dec.{ltb, eqb}
use borrow.Author.Tests.{eqb-true, eq-eqb, not-false}
use Rattle.model.specs.declared.Verdict.{Verdict}
use Rattle.model.specs.declared.Verdict.TheVariants.{Scope}
use Rattle.model.specs.Index.{first}
use Rattle.model.specs.Verdict.{◌>>◌, unless}
use Rattle.model.specs.Rows.{Program, size, tag, num, row_check_of}
use Rattle.model.specs.Scopes.{binds, uses, binds_name, binder, bound_again, name_check_of, in_scope, out_of_scope, scope_check_of}
use Rattle.model.specs.Verify.{program_check}
use Rattle.model.specs.Demands.{WellFormed}
use Rattle.model.specs.Refusals.{BoundAgain, ReadsOutside}
use Rattle.model.proofs.Logic.{true_false, test, not_failing, and_left, and_right, and_intro, and_false_right, not_fails}
use Rattle.model.proofs.Index.{first_is, first_below}
use Rattle.model.proofs.Exact.Tests.{fails_iff, passes_iff, and_iff, all_iff, any_iff, first_iff}
use Rattle.model.proofs.Exact.Checks.{then_none, then_iff, unless_iff, first_none}
use Rattle.model.proofs.Exact.Rows.{row_none, reads_name}

module _ (p : Program) where
  -- row b binds the name n
  abbrev pub Binds : ℕ → ℕ → Type 0
  Binds n b = binds_name p n b ≡ true

  abbrev pub BoundOnce : Type 0
  BoundOnce = (q r : ℕ) → q < size p → r < size p → binds (tag p q) ≡ true → binds (tag p r) ≡ true → num p q ≡ num p r → q ≡ r

  abbrev pub Bound : Type 0
  Bound = (n : ℕ) → n < p.names → (b : ℕ) × (b < size p) × Binds n b

  -- a name that row r reads is in scope there
  abbrev pub InScope : ℕ → Type 0
  InScope r = uses (tag p r) ≡ true → (b : ℕ) × (b < size p) × Binds (num p r) b × (in_scope p b r ≡ true)

  abbrev pub Scoped : Type 0
  Scoped = (r : ℕ) → r < size p → InScope r

  pub binds_row : (n b : ℕ) → Binds n b → (binds (tag p b) ≡ true) × (num p b ≡ n)
  unfolding binds_name
  binds_row n b h = (and_left (binds (tag p b)) (eqb (num p b) n) h, eqb-true (num p b) n (and_right (binds (tag p b)) (eqb (num p b) n) h))

  pub row_binds : (n b : ℕ) → binds (tag p b) ≡ true → num p b ≡ n → Binds n b
  unfolding binds_name
  row_binds n b h e = and_intro (binds (tag p b)) (eqb (num p b) n) h (eq-eqb (num p b) n e)

  pub again_iff : (r : ℕ) → (bound_again p r ≡ true) ↔ BoundAgain p r
  unfolding bound_again
  again_iff r =
      Iff.trans (and_iff (binds (tag p r)) _ Iff.rfl (any_iff r (binds_name p (num p r)) (λ q. Iff.rfl))) (
        λ h. let (q, b, x) = h.1 in record { binds_here = h.0; earlier = q; before = b; binds_there = x },
        λ x. (x.binds_here, (x.earlier, x.before, x.binds_there)),
      )

  abbrev pub NoneAgain : Type 0
  NoneAgain = (r : ℕ) → r < size p → BoundAgain p r → ⊥

  pub once_iff : NoneAgain ↔ BoundOnce
  once_iff = (
    λ h q r a b x y e. elim (dec_lt q r) [
      | yes l ↦ absurd (h r b (record { binds_here = y; earlier = q; before = l; binds_there = row_binds (num p r) q x e }))
      | no l ↦ elim (dec_lt r q) [
        | yes k ↦ absurd (h q a (record { binds_here = x; earlier = r; before = k; binds_there = row_binds (num p q) r y (sym e) }))
        | no k ↦ omega arith
      ]
    ],
    λ h r b x. let (y, e) = binds_row (num p r) x.earlier x.binds_there in
        let l = x.before in
        let z = h x.earlier r (omega arith) b y x.binds_here e in
        omega arith,
  )

  pub again_none : (v : Verdict) → (unless (eqb (first 0 (size p) (bound_again p)) (size p)) v ≡ none) ↔ NoneAgain
  again_none v = first_none (size p) (bound_again p) v (λ r b. fails_iff (bound_again p r) (again_iff r))

  -- the binder of a name is a row exactly where some row binds the name
  pub binder_iff : (n : ℕ) → (ltb (binder p n) (size p) ≡ true) ↔ ((b : ℕ) × (b < size p) × Binds n b)
  unfolding binder
  binder_iff n = first_iff (size p) (binds_name p n) (λ b. Iff.rfl)

  pub name_none : (name_check_of p ≡ none) ↔ (BoundOnce × Bound)
  unfolding name_check_of
  name_none =
      then_iff _ _ (Iff.trans (again_none _) once_iff)
      (unless_iff _ _ (all_iff p.names _ binder_iff))

  -- where a name is bound once, its binder is the row that binds it
  binder_is : BoundOnce → (n b : ℕ) → b < size p → Binds n b → binder p n ≡ b
  unfolding binder
  binder_is once n b h x =
      let l = first_below 0 (size p) b (binds_name p n) (omega arith) h x in
      let (y, e) = binds_row n b x in
      let (z, f) = binds_row n (binder p n) ((first_is 0 (size p) (binds_name p n) (omega arith)).passes (omega arith)) in
      once (binder p n) b (omega arith) h z y (f ∙ sym e)

  -- where each name read is below V, and each name below V is bound in one place: each name read is in scope
  module _ (named : (r : ℕ) → r < size p → uses (tag p r) ≡ true → num p r < p.names) (once : BoundOnce) (bound : Bound) where
    pub scoped_iff : (r : ℕ) → r < size p → (out_of_scope p r ≡ false) ↔ InScope r
    unfolding out_of_scope
    scoped_iff r b = (
      λ h u. let (k, l, x) = bound (num p r) (named r b u) in (
        k,
        l,
        x,
        subst (λ i. in_scope p i r ≡ true) (binder_is once (num p r) k l x)
            (not-false (in_scope p (binder p (num p r)) r) (and_false_right (uses (tag p r)) _ h u)),
      ),
      λ h. test (uses (tag p r) && not (in_scope p (binder p (num p r)) r))
          (λ t. let (k, l, x, s) = h (and_left (uses (tag p r)) _ t) in
          true_false (and_right (uses (tag p r)) _ t)
          (not_fails _ (subst (λ i. in_scope p i r ≡ true) (sym (binder_is once (num p r) k l x)) s)))
          (λ t. t),
    )

    pub outside_iff : (r : ℕ) → r < size p → (out_of_scope p r ≡ true) ↔ ReadsOutside p r
    unfolding out_of_scope
    outside_iff r b =
        Iff.trans (passes_iff (out_of_scope p r) (scoped_iff r b)) (
          λ h. record { reads = not_failing (uses (tag p r)) (λ f. h (λ u. true_false u f)); outside = λ k l x y. h (λ u. (k, l, x, y)) },
          λ o h. let (k, l, x, y) = h o.reads in o.outside k l x y,
        )

    pub scope_none : (scope_check_of p ≡ none) ↔ Scoped
    unfolding scope_check_of
    scope_none = first_none (size p) (out_of_scope p) _ scoped_iff

  -- Refusals 3 to 5 of a program
  pub program_none : (program_check p ≡ none) ↔ WellFormed p
  unfolding program_check
  program_none = (
    λ h. let (r, ns) = (then_none (row_check_of p) (name_check_of p >> scope_check_of p)).0 h in
        let (n, s) = (then_none (name_check_of p) (scope_check_of p)).0 ns in
        let fit = (row_none p).0 r in
        let (once, bound) = name_none.0 n in
        record { rows_fit = fit; bound_once = once; bound = bound; scoped = (scope_none (reads_name p fit) once bound).0 s },
    λ w. (then_none (row_check_of p) (name_check_of p >> scope_check_of p)).1 (
      (row_none p).1 w.rows_fit,
      (then_none (name_check_of p) (scope_check_of p)).1
          (name_none.1 (w.bound_once, w.bound), (scope_none (reads_name p w.rows_fit) w.bound_once w.bound).1 w.scoped),
    ),
  )
