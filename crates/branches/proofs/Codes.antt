-- The branches by their codes with all values together.
use Prim.Native.Nat.{ℕ}
use mathlib.Core.Path.{◌≡◌, refl, ◌∙◌, ap₂}
use mathlib.Core.Bool.{Bool, true, ◌&&◌}
use mathlib.Core.List.{List, [], ◌∷◌}
use mathlib.Core.Logic.Iff
use Rattle.model.specs.Index.{implies}
use Rattle.model.specs.Words.{Columns}
use Rattle.model.specs.Rows.{Program}
use Rattle.model.specs.Limits.{max_depth}
use Rattle.model.specs.Heads.{branch_body_of}
use Rattle.model.specs.Tables.{Tables, each, some_of, State, onward, has_state}
use Rattle.model.specs.Closed.{may_take, names_hold, branches_closed}
use Rattle.model.proofs.Logic.{test, true_false, and_left, and_right, and_intro, implies_elim, implies_intro, both}
use Rattle.model.proofs.Exact.Members.{some_of_iff}
use Rattle.values.proofs.Members.{each_at, at_each, each_none}
use Rattle.matching.specs.Patterns.{code, values_code}
use Rattle.branches.specs.Taken.{branch_code, code_closed, codes_closed}

module _ (l : Columns) (n : ℕ) where
  pub each_both : (f g : ℕ → Bool) → each l n (λ v. f v && g v) ≡ each l n f && each l n g
  each_both f g =
      both (each l n (λ v. f v && g v)) (each l n f && each l n g)
      (λ h. and_intro (each l n f) (each l n g)
      (at_each l n f (λ v m. and_left (f v) (g v) (each_at l n (λ w. f w && g w) h v m)))
      (at_each l n g (λ v m. and_right (f v) (g v) (each_at l n (λ w. f w && g w) h v m))))
      (λ h. at_each l n (λ v. f v && g v) (λ v m. and_intro (f v) (g v)
      (each_at l n f (and_left (each l n f) (each l n g) h) v m)
      (each_at l n g (and_right (each l n f) (each l n g) h) v m)))

  -- all values and one branch
  all_codes : (may held : ℕ → Bool) (there : Bool) → each l n (λ v. implies (may v) (held v && there)) ≡ code_closed (code (some_of l n may) (each l n (λ v. implies (may v) (held v)))) there
  unfolding code code_closed
  all_codes may held there =
      test (some_of l n may)
      (λ s. test (each l n (λ v. implies (may v) (held v)))
      (λ e. rw (s, e)
      (both (each l n (λ v. implies (may v) (held v && there))) there
      (λ h. let (v, m, z) = (some_of_iff l n may (λ w. Iff.rfl)).0 s in
      and_right (held v) there (implies_elim (may v) (held v && there) (each_at l n (λ w. implies (may w) (held w && there)) h v m) z))
      (λ h. at_each l n (λ w. implies (may w) (held w && there)) (λ v m. implies_intro (may v) (held v && there) (λ z.
      and_intro (held v) there (implies_elim (may v) (held v) (each_at l n (λ w. implies (may w) (held w)) e v m) z) h)))))
      (λ e. rw (s, e)
      (test (each l n (λ v. implies (may v) (held v && there)))
      (λ h. true_false (at_each l n (λ w. implies (may w) (held w)) (λ v m. implies_intro (may v) (held v) (λ z.
      and_left (held v) there (implies_elim (may v) (held v && there) (each_at l n (λ w. implies (may w) (held w && there)) h v m) z)))) e)
      (λ h. h))))
      (λ s. rw s (at_each l n (λ w. implies (may w) (held w && there)) (λ v m. implies_intro (may v) (held v && there) (λ z. true_false z (each_none l n may s v m)))))

module _ (p : Program) (t : Tables) (s : State) (l : Columns) (a : ℕ) where
  pub codes_each : (qs : List ℕ) → each l a (branches_closed p t s qs) ≡ codes_closed p t s (branch_code p t l a) qs
  unfolding branches_closed codes_closed branch_code values_code may_take
  codes_each [] = at_each l a (λ v. true) (λ v m. refl)
  codes_each (q ∷ qs) =
      each_both l a (λ v. implies (may_take p t q v) (names_hold p t max_depth q v && has_state t (onward s (branch_body_of p q)))) (branches_closed p t s qs) ∙
      ap₂ ◌&&◌ (all_codes l a (may_take p t q) (names_hold p t max_depth q) (has_state t (onward s (branch_body_of p q)))) (codes_each qs)
