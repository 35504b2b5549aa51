-- A name that is read holds something: at a process's place, in its branches' patterns, and in every function that is kept.
use Prim.Native.Nat.{ℕ, ◌+◌, ◌≤◌, ◌<◌}
use native.Mathlib.Decide.{dec_lt, ℕ_discrete}
use native.Mathlib.Omega.{arith}
use mathlib.Core.Path.{◌≡◌, refl, sym, ◌∙◌, ap}
use mathlib.Core.Bool.{true}
use mathlib.Core.List.Memᴰ
use mathlib.Core.List.{Memᴰ}
use mathlib.Core.Logic.{◌⊎◌, inl, inr, ⊎_elim}
use Rattle.model.specs.Rows.{Program, size, tag, num, body_form_of, past_items}
use Rattle.model.specs.Scopes.{uses, binds, binds_name, is_held_in, in_scope}
use Rattle.model.specs.Heads.{Head, head_at, branch_body_of, is_function, gives, builds, makes, calls, sends, spawns, selfs, cases, receives, no_head}
use Rattle.model.specs.Values.{Value, closure, Bindings, empty, Process}
use Rattle.model.specs.Patterns.{RowAt, global}
use Rattle.model.specs.Demands.{WellFormed}
use Rattle.model.specs.NoEmptyName.{HoldsSomething, branches_at, Reads, in_expression, in_pattern, ReadsFromOutside, Keeps, SomeKeeps, the_function, in_bindings, in_arguments, the_newest, an_older, KeptIn, bound, pushed, mailed, NoNameEmpty}
use Rattle.model.proofs.Logic.{true_false}
use Rattle.model.proofs.Heads.{function_tag}
use Rattle.model.proofs.Exact.Rows.{row_none}
use Rattle.model.proofs.Exact.Names.{binds_row, row_binds}
use Rattle.model.proofs.Parse.Spans.{spans_past}
use Rattle.model.proofs.Parse.Reached.{stands_row}
use Rattle.model.proofs.Parse.Locations.{Location, location_head}
use Rattle.model.proofs.Parse.Functions.{row_form}
use Rattle.model.proofs.HeldScopes.{held_scopes}
use Rattle.model.proofs.NoEmptyName.Binders.{Binder, binder_at, scope_has, scope_gives}
use Rattle.model.proofs.NoEmptyName.Nesting.{Local}
use Rattle.model.proofs.NoEmptyName.Held.{Covers}
use Rattle.model.proofs.NoEmptyName.Values.{Full, full_function, full_built, AllFull, one_held}
use Rattle.model.proofs.NoEmptyName.Processes.{each_member, FullProcess}
use Rattle.model.proofs.NoEmptyName.Reading.{ReadRow, read_row}

-- the branches of a case or a receive
by_branches : {b : ℕ} (h : Head) → Memᴰ b (branches_at h) → ((n : ℕ) × (h ≡ cases n (branches_at h))) ⊎ (h ≡ receives (branches_at h))
by_branches (gives n) m = absurd (Memᴰ.not-nil m)
by_branches (builds n k ns r) m = absurd (Memᴰ.not-nil m)
by_branches (makes n r) m = absurd (Memᴰ.not-nil m)
by_branches (calls c) m = absurd (Memᴰ.not-nil m)
by_branches (sends n t k r) m = absurd (Memᴰ.not-nil m)
by_branches (spawns n g r) m = absurd (Memᴰ.not-nil m)
by_branches (selfs n r) m = absurd (Memᴰ.not-nil m)
by_branches (cases n bs) m = inl (n, refl)
by_branches (receives bs) m = inr refl
by_branches no_head m = absurd (Memᴰ.not-nil m)

module _ {p : Program} (w : WellFormed p) where
  -- a global's name holds something in any bindings
  global_holds : (n b : ℕ) (held : Bindings) → b < size p → num p b ≡ n → tag p b ≡ 11 → HoldsSomething p held n
  unfolding binds
  global_holds n b held below named t = (
    closure b empty,
    global (record { below = below; tagged = t; numbered = named })
        (λ f l r. let z = w.bound_once f b r.below below (ap binds r.tagged) (ap binds t) (r.numbered ∙ sym named) in omega arith),
  )

  -- A name that row k reads holds something, where each row that binds it in a scope around k either is in scope at r, where names hold, or can't be.
  read_holds : {held : Bindings} {r : ℕ} (k n : ℕ) → k < size p → uses (tag p k) ≡ true → num p k ≡ n → Covers p held r → ((b : ℕ) → Local p b → num p b ≡ n → in_scope p b k ≡ true → in_scope p b r ≡ true) → HoldsSomething p held n
  read_holds {held} k n below reads named c moves =
      let (b, within, binds-it, scope) = w.scoped k below reads in
      let (u, same) = binds_row p (num p k) b binds-it in elim (ℕ_discrete (tag p b) 11) [
        | yes t ↦ global_holds n b held within (same ∙ named) t
        | no t ↦
            let x : Local p b = record { below = within; binds_name = u; no_global = t } in
            c.holds n b x (same ∙ named) (moves b x (same ∙ named) scope)
      ]

  -- in an expression
  head_holds : {held : Bindings} {r n : ℕ} → Covers p held r → ReadRow p r n → HoldsSomething p held n
  head_holds {r = r} c x =
      read_holds x.row _ x.within x.reads x.named c
      (λ b l named scope.
      let bd = binder_at w.rows_fit b l.below l.binds_name l.no_global in
      let (lo, hi) = scope_has p b x.row scope l.no_global in
      let from = x.from in elim (dec_lt r (is_held_in p b)) [
        | yes a ↦ true_false (location_head bd.location) (x.no_head (is_held_in p b) a lo)
        | no a ↦ scope_gives p b r (omega arith) (omega arith)
      ])

  -- in a held_name pattern
  pattern_holds : {held : Bindings} {r n b k : ℕ} → Location p r → Covers p held r → Memᴰ b (branches_at (head_at p r)) → b ≤ k → k < branch_body_of p b → RowAt p k 33 n → HoldsSomething p held n
  unfolding uses
  pattern_holds {r = r} {b = b} {k = k} l c m lo hi row =
      read_holds k _ row.below (ap uses row.tagged) row.numbered c
      (λ d x named scope.
      sym (held_scopes p ((row_none p).1 w.rows_fit) r (branches_at (head_at p r)) (stands_row l.stands).within (by_branches (head_at p r) m) b k m lo hi d x.below x.binds_name) ∙ scope)

  -- in a function that is kept
  pub outside_holds : {f n : ℕ} {kept : Bindings} → f < size p → is_function p f ≡ true → Covers p kept f → ReadsFromOutside p f n → HoldsSomething p kept n
  outside_holds {f} {n} below is c o =
      let g = row_form w.rows_fit f below is in
      let past = spans_past g.form.spans in
      let end = g.upto in
      let after = o.upto in
      let from = o.from in
      read_holds o.row n (omega arith) o.reads o.named c
      (λ b x named scope.
      let bd = binder_at w.rows_fit b x.below x.binds_name x.no_global in
      let (lo, hi) = scope_has p b o.row scope x.no_global in
      let behind = bd.behind in elim (dec_lt f (is_held_in p b)) [
        | no a ↦ scope_gives p b f (omega arith) (omega arith)
        | yes a ↦ elim (dec_lt f b) [
          | yes d ↦ absurd (o.unbound b d (omega arith) (row_binds p n b x.binds_name named))
          | no d ↦ elim (dec_lt b f) [
            | yes u ↦ let z = bd.functions f u a is in absurd (omega arith)
            | no u ↦ absurd (own_row b (omega arith) x bd lo)
          ]
        ]
      ])
    where
      own_row : (b : ℕ) → b ≡ f → Local p b → Binder p b (is_held_in p b) → is_held_in p b ≤ o.row → ⊥
      own_row b same x bd lo =
          let after = o.upto in
          ⊎_elim (λ t. let z = bd.own_form (ap (tag p) same ∙ t) in let y = ap (λ k. past_items p body_form_of (k + 1)) same in omega arith)
          (λ t. x.no_global (ap (tag p) same ∙ t)) (function_tag p f is)

  pub reads_hold : {q : Process} {n : ℕ} → FullProcess p q → Reads p q.location n → HoldsSomething p q.held n
  reads_hold g (in_expression m) = head_holds g.covers (read_row g.location m)
  reads_hold g (in_pattern m lo hi row) = pattern_holds g.location g.covers m lo hi row

  mutual
    kept_holds : {f n : ℕ} {kept : Bindings} {v : Value} → Keeps f kept v → Full p v → ReadsFromOutside p f n → HoldsSomething p kept n
    kept_holds the_function (full_function below is covers full) o = outside_holds below is covers o
    kept_holds (in_bindings k) (full_function below is covers full) o = some_holds k full o
    kept_holds (in_arguments k) (full_built many full) o = some_holds k full o

    some_holds : {f n : ℕ} {kept held : Bindings} → SomeKeeps f kept held → AllFull p held → ReadsFromOutside p f n → HoldsSomething p kept n
    some_holds (the_newest k) (one_held f fs) o = kept_holds k f o
    some_holds (an_older k) (one_held f fs) o = some_holds k fs o

  functions_hold : {q : Process} {f n : ℕ} {kept : Bindings} → FullProcess p q → KeptIn q f kept → ReadsFromOutside p f n → HoldsSomething p kept n
  functions_hold g (bound k) o = some_holds k g.full o
  functions_hold g (pushed m k) o = some_holds k (each_member g.frames m).full o
  functions_hold g (mailed m k) o = kept_holds k (each_member g.mailbox m) o

  pub no_name_empty : {q : Process} → FullProcess p q → NoNameEmpty p q
  no_name_empty g = record { next_act = λ n r. reads_hold g r; functions = λ f kept k n o. functions_hold g k o }
