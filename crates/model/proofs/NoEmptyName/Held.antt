-- What holds something goes on to do so when more is bound; and every name in scope at the next row holds something where each at the row did.
use Prim.Native.Nat.{ℕ, ◌≤◌, ◌<◌}
use native.Mathlib.Decide.{ℕ_discrete}
use mathlib.Core.Path.{◌≡◌, refl, sym, ◌∙◌, ap, subst}
use mathlib.Core.Bool.{true}
use mathlib.Core.List.{List, Memᴰ}
use mathlib.Core.Logic.{⊎_elim}
use mathlib.Core.Option.{some}
use lib.Dec.{ltb}
use borrow.Author.Tests.{eq-eqb}
use Rattle.model.specs.Rows.{Program, size, tag, num}
use Rattle.model.specs.Scopes.{binds, binds_name, in_scope}
use Rattle.model.specs.Heads.{head_at, branch_body_of, is_function, body, start}
use Rattle.model.specs.Values.{Value, closure, Bindings, empty, bind, lookup, global_row, value_of}
use Rattle.model.specs.Patterns.{older, global, local}
use Rattle.model.specs.NoEmptyName.{HoldsSomething}
use Rattle.model.proofs.Logic.{test}
use Rattle.model.proofs.Transitions.Names.{value_exactly}
use Rattle.model.proofs.Parse.Reached.{RowsFit}
use Rattle.model.proofs.Parse.Heads.{rest_of}
use Rattle.model.proofs.Parse.Locations.{Location}
use Rattle.model.proofs.Parse.Branches.{Branches}
use Rattle.model.proofs.NoEmptyName.Nesting.{Local, scope_start, scope_global, scope_rest, scope_body, scope_branch}

module _ {p : Program} where
  -- a name just bound holds something, and the others what they held
  pub bound_holds : (n : ℕ) (v : Value) (held : Bindings) → HoldsSomething p (bind n v held) n
  unfolding value_of lookup
  bound_holds n v held =
      let x = value_exactly p n (bind n v held) in
      test (ltb (global_row p n) (size p))
      (λ e. (closure (global_row p n) empty, x.has (closure (global_row p n) empty) (rw (e, value_of))))
      (λ e. (v, x.has v (rw (e, value_of) (rw (eq-eqb n n refl, lookup)))))

  pub still_holds : {n m : ℕ} {w : Value} {held : Bindings} → HoldsSomething p held n → HoldsSomething p (bind m w held) n
  still_holds (v, global r never) = (closure _ empty, global r never)
  still_holds {n} {m} {w} {held} (v, local never k) = elim (ℕ_discrete m n) [
    | yes z ↦ subst (λ x. HoldsSomething p (bind m w held) x) z (bound_holds m w held)
    | no z ↦ (v, local never (older z k))
  ]

-- every name in scope at row r holds something (a global's always does)
pub record Covers (p : Program) (held : Bindings) (r : ℕ) : Type 0 where
  pub holds : (n b : ℕ) → Local p b → num p b ≡ n → in_scope p b r ≡ true → HoldsSomething p held n

-- what held something holds something after more is bound
pub record Extends (p : Program) (held held' : Bindings) : Type 0 where
  pub holds : (n : ℕ) → HoldsSomething p held n → HoldsSomething p held' n

module _ {p : Program} (fit : RowsFit p) where
  pub covers_start : (held : Bindings) → Covers p held (start p)
  covers_start held = record { holds = λ n b x named scope. absurd (scope_start fit x scope) }

  pub covers_global : (held : Bindings) (g : ℕ) → tag p g ≡ 11 → Covers p held g
  covers_global held g t = record { holds = λ n b x named scope. absurd (scope_global fit x g t scope) }

  pub covers_rest : {held : Bindings} {r r' : ℕ} → Location p r → rest_of (head_at p r) ≡ some r' → (v : Value) → Covers p held r → Covers p (bind (num p r) v held) r'
  covers_rest {held} {r} l to v c = record {
    holds = λ n b x named scope. ⊎_elim (λ s. still_holds (c.holds n b x named s))
        (λ z. subst (HoldsSomething p (bind (num p r) v held)) (ap (num p) (sym z) ∙ named) (bound_holds (num p r) v held)) (scope_rest fit x l to scope);
  }

  pub covers_body : {kept held : Bindings} (f : ℕ) → f < size p → is_function p f ≡ true → Covers p kept f → Extends p kept held → ((k : ℕ) → f < k → k < body p f → binds (tag p k) ≡ true → HoldsSomething p held (num p k)) → Covers p held (body p f)
  covers_body {held = held} f below is c more own = record {
    holds = λ n b x named scope. ⊎_elim (λ s. more.holds n (c.holds n b x named s))
        (λ z. subst (HoldsSomething p held) named (own b z.0 z.1 x.binds_name)) (scope_body fit x f below is scope);
  }

  pub covers_branch : {held held' : Bindings} {r q : ℕ} {qs : List ℕ} (l : Location p r) → Branches p r qs l.below l.end → Memᴰ q qs → Covers p held r → Extends p held held' → ((k : ℕ) → q ≤ k → k < branch_body_of p q → binds (tag p k) ≡ true → HoldsSomething p held' (num p k)) → Covers p held' (branch_body_of p q)
  covers_branch {held' = held'} l at listed c more own = record {
    holds = λ n b x named scope. ⊎_elim (λ s. more.holds n (c.holds n b x named s))
        (λ z. subst (HoldsSomething p held') named (own b z.0 z.1 x.binds_name)) (scope_branch fit x l at listed scope);
  }
