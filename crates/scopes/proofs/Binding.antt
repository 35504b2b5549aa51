-- Which rows bind names: the tests of the code, the table of binders, and refusal 4.
use Prim.Native.Nat.{ℕ, zero, suc, ◌+◌, ◌≤◌, ◌<◌}
use native.Mathlib.Decide.{ℕ_discrete, dec_lt}
use native.Mathlib.Omega.{arith}
use mathlib.Core.Path.{◌≡◌, refl, sym, ◌∙◌, ap}
use mathlib.Core.Bool.{true, false, not}
use mathlib.Core.List.{List}
use mathlib.Core.Logic.{◌⊎◌, inl, inr, ⊎_elim}
use lib.ListN.{length, get_or, set}
use lib.Seq.{get_or-set_same, get_or-set_other}
use lib.Dec.{eqb}
use borrow.Author.Tests.{eq-eqb, ne_eqb, le-leb, lt-leb, lt-ltb, le-ltb, eqb-true, eqb-false}
use Rattle.std.proofs.Common.{Ok, Err}
use Rattle.model.specs.declared.Verdict.TheVariants.{Name}
use Rattle.model.specs.Verdict.{◌>>◌, unless}
use Rattle.model.specs.Index.{all, first}
use Rattle.model.specs.Rows.{Program, size, tag, num}
use Rattle.model.specs.Scopes.{binds, binds_name, binder, bound_again, name_check_of}
use Rattle.model.specs.Verify.{outcome}
use Rattle.scopes.specs.Tables.{is_bound}
use Rattle.model.proofs.Logic.{test, true_false, and_intro, and_none}
use Rattle.model.proofs.Index.{any_intro, none_any, first_hit, first_miss, First, first_is}

-- the tags that bind
pub binds_head : (t : ℕ) → 2 ≤ t → t ≤ 7 → true ≡ binds t
unfolding binds
binds_head t a b = rw (le-leb 2 t a, le-leb t 7 b)

pub binds_other : (t : ℕ) → (t ≡ 11) ⊎ ((t ≡ 23) ⊎ (t ≡ 30)) → true ≡ binds t
unfolding binds
binds_other t h = ⊎_elim (λ e. rw e) (λ h. ⊎_elim (λ e. rw e) (λ e. rw e) h) h

pub binds_none : (t : ℕ) → (2 ≤ t → 7 < t) → ((t ≡ 11) ⊎ ((t ≡ 23) ⊎ (t ≡ 30)) → ⊥) → false ≡ binds t
unfolding binds
binds_none t h k =
    rw (ne_eqb t 11 (λ e. k (inl e)), ne_eqb t 23 (λ e. k (inr (inl e))), ne_eqb t 30 (λ e. k (inr (inr e))))
    (elim (dec_lt 1 t) [ yes e ↦ rw (lt-leb t 7 (h e), le-leb 2 t e) refl | no e ↦ rw (lt-leb 2 t (omega arith)) refl ])

module _ (p : Program) where
  -- the table of binders of the rows from r on
  abbrev pub Binders : ℕ → List ℕ → Type 0
  Binders r table = (n : ℕ) → n < p.names → get_or table n 0 ≡ first r (size p) (binds_name p n)

  -- one row more, from the last to the first: it binds a name
  pub binders_set : (q r n : ℕ) (table : List ℕ) → q ≡ r + 1 → r < size p → n ≡ num p r → p.names ≤ length table → n < p.names → binds (tag p r) ≡ true → Binders q table → Binders r (set table n r)
  unfolding binds_name
  binders_set q r n table z a e l k b h m c = elim (ℕ_discrete m n) [
    | yes f ↦
        rw (f, get_or-set_same table n r 0 (omega arith))
        (sym (first_hit r (size p) (binds_name p n) a (and_intro (binds (tag p r)) (eqb (num p r) n) b (eq-eqb (num p r) n (sym e)))))
    | no f ↦
        get_or-set_other table n m r 0 f ∙
        (h m c ∙
        (ap (λ i. first i (size p) (binds_name p m)) z ∙ sym (first_miss r (size p) (binds_name p m) a (rw (b, ne_eqb (num p r) m (λ g. f (sym g ∙ sym e)))))))
  ]

  -- or it binds none of the names
  pub binders_keep : (q r : ℕ) (table : List ℕ) → q ≡ r + 1 → r < size p → ((m : ℕ) → m < p.names → binds_name p m r ≡ false) → Binders q table → Binders r table
  binders_keep q r table z a b h m c =
      h m c ∙ (ap (λ i. first i (size p) (binds_name p m)) z ∙ sym (first_miss r (size p) (binds_name p m) a (b m c)))

  pub binds_no_name : (r m n : ℕ) → n ≡ num p r → p.names ≤ n → m < p.names → binds_name p m r ≡ false
  unfolding binds_name
  binds_no_name r m n e a b = rw (ne_eqb (num p r) m (omega arith)) (and_none (binds (tag p r)))

  pub binds_nothing : (r m : ℕ) → binds (tag p r) ≡ false → binds_name p m r ≡ false
  unfolding binds_name
  binds_nothing r m b = rw b

  -- all the rows
  pub binders_all : (r : ℕ) (table : List ℕ) → r ≤ 0 → Binders r table → (n : ℕ) → n < p.names → get_or table n 0 ≡ binder p n
  unfolding binder
  binders_all zero table z h n a = h n a
  binders_all (suc r) table z h n a = absurd (omega arith)

  -- row r binds its own name, so its first binder is r or before it
  again_first : (r : ℕ) → r < size p → binds (tag p r) ≡ true → First 0 (size p) (binds_name p (num p r)) (binder p (num p r)) × (binds_name p (num p r) r ≡ true)
  unfolding binder binds_name
  again_first r a b =
      (first_is 0 (size p) (binds_name p (num p r)) (omega arith), and_intro (binds (tag p r)) (eqb (num p r) (num p r)) b (eq-eqb (num p r) (num p r) refl))

  pub again : (r n : ℕ) → r < size p → n ≡ num p r → binds (tag p r) ≡ true → (binder p n ≡ r → ⊥) → bound_again p r ≡ true
  unfolding bound_again
  again r n a e b h =
      let (f, t) = again_first r a b in
      rw b
      (elim (dec_lt (binder p (num p r)) r) [
        | yes c ↦ any_intro 0 r (binder p (num p r)) (binds_name p (num p r)) (omega arith) c (f.passes (omega arith))
        | no c ↦ elim (dec_lt r (binder p (num p r))) [
          | yes d ↦ true_false t (f.before r (omega arith) d)
          | no d ↦ absurd (h (ap (binder p) e ∙ omega arith))
        ]
      ])

  pub not_again : (r n : ℕ) → r < size p → n ≡ num p r → binds (tag p r) ≡ true → binder p n ≡ r → bound_again p r ≡ false
  unfolding bound_again
  not_again r n a e b h =
      let (f, t) = again_first r a b in
      rw b (none_any 0 r (binds_name p (num p r)) (λ k lo hi. f.before k lo (omega (arith, ap (binder p) e))))

  -- as the code tests it
  pub again_is : (r n v : ℕ) → r < size p → n ≡ num p r → binds (tag p r) ≡ true → v ≡ binder p n → not (eqb v r) ≡ bound_again p r
  again_is r n v a e b z =
      test (eqb v r) (λ t. ap not t ∙ sym (not_again r n a e b (sym z ∙ eqb-true v r t)))
      (λ t. ap not t ∙ sym (again r n a e b (λ k. eqb-false v r t (z ∙ k))))

  pub never_again : (r : ℕ) → binds (tag p r) ≡ false → bound_again p r ≡ false
  unfolding bound_again
  never_again r b = rw b

  -- a name is bound, by its entry in the table
  pub is_bound_yes : (n v : ℕ) → v ≡ binder p n → v < size p → is_bound p n ≡ true
  unfolding is_bound
  is_bound_yes n v e a = lt-ltb (binder p n) (size p) (omega arith)

  pub is_bound_no : (n v : ℕ) → v ≡ binder p n → size p ≤ v → is_bound p n ≡ false
  unfolding is_bound
  is_bound_no n v e a = le-ltb (binder p n) (size p) (omega arith)

  -- refusal 4, by the two loops
  pub name_again : (r : ℕ) → r < size p → first 0 (size p) (bound_again p) ≡ r → Err (Name (4 + r)) ≡ outcome (name_check_of p)
  unfolding name_check_of unless ◌>>◌ outcome
  name_again r a h = rw (h, ne_eqb r (size p) (omega arith))

  pub name_missing : first 0 (size p) (bound_again p) ≡ size p → all 0 p.names (is_bound p) ≡ false → Err (Name 1) ≡ outcome (name_check_of p)
  unfolding name_check_of unless ◌>>◌ outcome is_bound
  name_missing h e = rw (h, eq-eqb (size p) (size p) refl, e)

  pub names_pass : first 0 (size p) (bound_again p) ≡ size p → all 0 p.names (is_bound p) ≡ true → Ok tt ≡ outcome (name_check_of p)
  unfolding name_check_of unless ◌>>◌ outcome is_bound
  names_pass h e = rw (h, eq-eqb (size p) (size p) refl, e)
