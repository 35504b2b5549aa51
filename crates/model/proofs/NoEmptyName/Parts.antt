-- The rows of a head's parts: its name, rows of one sort, a function's parameters.
use Prim.Native.Nat.{ℕ, zero, suc, ◌+◌, ◌-◌, ◌≤◌, ◌<◌}
use native.Mathlib.Decide.{ℕ_discrete}
use native.Mathlib.Omega.{arith}
use mathlib.Core.Path.{◌≡◌, sym, ◌∙◌, ap, subst}
use mathlib.Core.Bool.{true}
use mathlib.Core.List.{List, []}
use mathlib.Core.Option.{some}
use lib.ListN.{length, replicate}
use Rattle.model.specs.Rows.{Program, tag, num, kind, Item, parameter, operand, step}
use Rattle.model.specs.Scopes.{binds}
use Rattle.model.specs.Heads.{Head, gives, builds, makes, calls, sends, spawns, selfs, cases, receives, no_head, call_at, head_at, parameters, body}
use Rattle.model.specs.Values.{Bindings}
use Rattle.model.specs.Transitions.{BoundTo}
use Rattle.model.specs.NoEmptyName.{HoldsSomething}
use Rattle.model.proofs.Logic.{true_false}
use Rattle.model.proofs.Heads
use Rattle.model.proofs.Heads.{by_kind, head_give, head_function, head_send, head_spawn, head_self, head_case, head_receive, head_other}
use Rattle.model.proofs.Covering.{names_of}
use Rattle.model.proofs.Parse.Spans.{Spans, spans_unique, spans_none, spans_first}
use Rattle.model.proofs.Parse.Reached.{stands_only}
use Rattle.model.proofs.Parse.Grammar.{fits_tag}
use Rattle.model.proofs.Parse.Functions.{FunctionForm, form_body}
use Rattle.model.proofs.Parse.Lengths.{ColumnsWhole, nums_at, parameters_length}
use Rattle.model.proofs.NoEmptyName.Values.{bound_own}

-- the name that a head binds; d where it binds none
abbrev own_name : ℕ → Head → ℕ
own_name d (gives n) = d
own_name d (builds n k ns r) = n
own_name d (makes n r) = n
own_name d (calls c) = c.name
own_name d (sends n t m r) = n
own_name d (spawns n f r) = n
own_name d (selfs n r) = n
own_name d (cases n qs) = d
own_name d (receives qs) = d
own_name d no_head = d

-- it stands in the head's row
pub name_at : (p : Program) (r : ℕ) (h : Head) → head_at p r ≡ h → own_name (num p r) h ≡ num p r
unfolding call_at
name_at p r h e =
    ap (own_name (num p r)) (sym e) ∙
    by_kind (kind (tag p r))
    (λ k. ap (own_name (num p r)) (head_give p r k))
    (λ k. ap (own_name (num p r)) (Heads.head_build p r k))
    (λ k. ap (own_name (num p r)) (head_function p r k))
    (λ k. ap (own_name (num p r)) (Heads.head_call p r k))
    (λ k. ap (own_name (num p r)) (head_send p r k))
    (λ k. ap (own_name (num p r)) (head_spawn p r k))
    (λ k. ap (own_name (num p r)) (head_self p r k))
    (λ k. ap (own_name (num p r)) (head_case p r k))
    (λ k. ap (own_name (num p r)) (head_receive p r k))
    (λ k. ap (own_name (num p r)) (head_other p r k))

-- items that take a row each, with tag t
pub one_row : (p : Program) (x : Item) (t : ℕ) → ((r : ℕ) (more : List Item) → step p x (tag p r) (num p r) ≡ some more → (tag p r ≡ t) × ([] ≡ more)) → (n s e : ℕ) → Spans p (replicate n x) s e → (e ≡ s + n) × ((k : ℕ) → s ≤ k → k < e → tag p k ≡ t)
one_row p x t one zero s e h = let z = spans_unique (spans_none s) h in (omega arith, λ k lo hi. absurd (omega arith))
one_row p x t one (suc n) s e h =
    let f = spans_first h in
    let (tagged, z) = one s f.more f.says in
    let (end, tags) = one_row p x t one n (s + 1) e (rw (← z) at f.rest) in (
      omega arith,
      λ k lo hi. elim (ℕ_discrete k s) [ yes y ↦ ap (tag p) y ∙ tagged | no y ↦ tags k (omega arith) hi ],
    )

module _ {p : Program} where
  pub operand_rows : (n s e : ℕ) → Spans p (replicate n operand) s e → (e ≡ s + n) × ((k : ℕ) → s ≤ k → k < e → tag p k ≡ 21)
  unfolding step
  operand_rows = one_row p operand 21 (λ r more says. fits_tag (tag p r) 21 _ [] more says)

  -- behind a function's row its count, and a row for each parameter
  pub header_rows : {f e : ℕ} → FunctionForm p f e → (tag p (f + 1) ≡ 22) × (body p f ≡ f + 2 + num p (f + 1))
  unfolding step
  header_rows {f} g =
      let (more, says, others) = stands_only (form_body g).0 in
      let (tagged, same) = fits_tag (tag p (f + 1)) 22 _ (replicate (num p (f + 1)) parameter) more says in
      let (end, tags) = one_row p parameter 23 (λ r m h. fits_tag (tag p r) 23 _ [] m h) (num p (f + 1)) (f + 1 + 1) (body p f) (rw (← same) at others.spans) in
      (tagged, omega arith)

  -- each row that binds a name there is bound with as many arguments as parameters
  pub parameters_hold : {f e : ℕ} {vs kept held : Bindings} → ColumnsWhole p → FunctionForm p f e → BoundTo kept (parameters p f) vs held → length (names_of vs) ≡ num p (f + 1) → (k : ℕ) → f < k → k < body p f → binds (tag p k) ≡ true → HoldsSomething p held (num p k)
  unfolding binds parameters
  parameters_hold {f} {held = held} w g b many k lo hi u =
      let (tagged, end) = header_rows g in
      let long = parameters_length w g in elim (ℕ_discrete k (f + 1)) [
        | yes z ↦ true_false u (ap (λ x. binds (tag p x)) z ∙ ap binds tagged)
        | no z ↦
            let same : f + 2 + (k - (f + 2)) ≡ k = omega arith in
            subst (HoldsSomething p held) (nums_at p (f + 2) (num p (f + 1)) (k - (f + 2)) (omega arith) ∙ ap (num p) same)
            (bound_own b (long ∙ sym many) (k - (f + 2)) (omega arith))
      ]
