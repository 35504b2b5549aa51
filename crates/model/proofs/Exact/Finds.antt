-- Tests of what the tables have: where one passes, each entry that it asks for is there; where it fails, one of them is missing.
use Prim.Native.Nat.{ℕ, ◌<◌}
use native.Mathlib.Omega.{arith}
use mathlib.Core.Path.{◌≡◌, refl, sym, subst}
use mathlib.Core.Bool.{Bool, true, false, ◌&&◌}
use mathlib.Core.Logic.Iff
use mathlib.Core.Logic.{◌↔◌, ◌⊎◌, inl, inr, ⊎_elim}
use lib.Dec.{eqb}
use Rattle.model.specs.Index.{implies, all}
use Rattle.model.specs.Words.{Columns, left, right}
use Rattle.model.specs.Tables.{Tables, has, each, State, has_state}
use Rattle.model.specs.Wanted.{Member, Entry, flow, mail, state, Present}
use Rattle.model.proofs.Logic.{true_false, test, and_left, and_right, and_false_right, implies_elim, implies_intro}
use Rattle.model.proofs.Index.{all_elim}
use Rattle.model.proofs.Exact.Tests.{eqb_iff, all_refuted}
use Rattle.model.proofs.Exact.Members.{member_iff, has_iff, has_state_iff}

module _ (t : Tables) where
  pub record Finds (b : Bool) (Asked : Entry → Type 0) : Type 0 where
    pub there : b ≡ true → (e : Entry) → Asked e → Present t e
    pub missing : b ≡ false → (e : Entry) × Asked e × (Present t e → ⊥)

  pub finds_map : {b : Bool} {A B : Entry → Type 0} → ((e : Entry) → A e → B e) → ((e : Entry) → B e → A e) → Finds b A → Finds b B
  finds_map to from f =
      record { there = λ h e x. f.there h e (from e x); missing = λ h. let (e, x, n) = f.missing h in (e, to e x, n) }

  pub finds_none : {A : Entry → Type 0} → ((e : Entry) → A e → ⊥) → Finds true A
  finds_none f = record { there = λ h e x. absurd (f e x); missing = λ h. true_false refl h }

  -- one entry
  finds_entry : (b : Bool) (e : Entry) → (b ≡ true) ↔ Present t e → Finds b (λ x. x ≡ e)
  finds_entry b e i =
      record { there = λ h x q. subst (Present t) (sym q) (i.0 h); missing = λ h. (e, refl, λ m. true_false (i.1 m) h) }

  pub finds_flow : (n v : ℕ) → Finds (has t.flow n v) (λ x. x ≡ flow n v)
  finds_flow n v = finds_entry (has t.flow n v) (flow n v) (has_iff t.flow n v)

  pub finds_mail : (c v : ℕ) → Finds (has t.mail c v) (λ x. x ≡ mail c v)
  finds_mail c v = finds_entry (has t.mail c v) (mail c v) (has_iff t.mail c v)

  pub finds_state : (s : State) → Finds (has_state t s) (λ x. x ≡ state s)
  finds_state s = finds_entry (has_state t s) (state s) (has_state_iff t s)

  -- what both ask for
  pub finds_and : (a b : Bool) {A B : Entry → Type 0} → Finds a A → Finds b B → Finds (a && b) (λ e. A e ⊎ B e)
  finds_and a b f g =
      record {
        there = λ h e. ⊎_elim (f.there (and_left a b h) e) (g.there (and_right a b h) e);
        missing = λ h. test a (λ x. let (e, y, n) = g.missing (and_false_right a b h x) in (e, inr y, n))
            (λ x. let (e, y, n) = f.missing x in (e, inl y, n));
      }

  -- what is asked for where a test passes
  pub finds_where : (a b : Bool) {A : Type 0} {B : Entry → Type 0} → (a ≡ true) ↔ A → Finds b B → Finds (implies a b) (λ e. A × B e)
  finds_where a b i f =
      record {
        there = λ h e x. f.there (implies_elim a b h (i.1 x.0)) e x.1;
        missing = λ h. test a
            (λ x. let (e, y, n) = f.missing (test b (λ z. true_false (implies_intro a b (λ w. z)) h) (λ z. z)) in (e, (i.0 x, y), n))
            (λ x. true_false (implies_intro a b (λ w. true_false w x)) h);
      }

  -- what each index asks for
  pub finds_all : (n : ℕ) (f : ℕ → Bool) {A : ℕ → Entry → Type 0} → ((i : ℕ) → Finds (f i) (A i)) → Finds (all 0 n f) (λ e. (i : ℕ) × (i < n) × A i e)
  finds_all n f g =
      record {
        there = λ h e x. let (i, b, y) = x in (g i).there (all_elim 0 n i f h (omega arith) b) e y;
        missing = λ h. let (i, b, out) = (all_refuted n f (λ i. Iff.rfl)).0 h in
            let (e, y, m) = (g i).missing (test (f i) (λ z. absurd (out z)) (λ z. z)) in (e, (i, b, y), m);
      }

  -- what each second number that the list pairs with a asks for
  pub finds_each : (c : Columns) (a : ℕ) (f : ℕ → Bool) {A : ℕ → Entry → Type 0} → ((v : ℕ) → Finds (f v) (A v)) → Finds (each c a f) (λ e. (v : ℕ) × Member c a v × A v e)
  unfolding each
  finds_each c a f {A} g =
      finds_map (λ e. (member_iff c a {A = λ v. A v e}).0) (λ e. (member_iff c a {A = λ v. A v e}).1)
      (finds_all c.size _ (λ i. finds_where (eqb (left c i) a) (f (right c i)) (eqb_iff (left c i) a) (g (right c i))))

  -- it passes exactly where all are there, and fails exactly where one is missing
  pub found_iff : {b : Bool} {A : Entry → Type 0} → Finds b A → (b ≡ true) ↔ ((e : Entry) → A e → Present t e)
  found_iff {b} f = (
    f.there,
    λ h. test b (λ z. z) (λ z. let (e, x, n) = f.missing z in absurd (n (h e x))),
  )

  pub missing_iff : {b : Bool} {A : Entry → Type 0} → Finds b A → (b ≡ false) ↔ ((e : Entry) × A e × (Present t e → ⊥))
  missing_iff {b} f = (
    f.missing,
    λ h. let (e, x, n) = h in test b (λ z. absurd (n (f.there z e x))) (λ z. z),
  )
