-- The functions of a program and their body forms.
use Prim.Native.Nat.{ℕ, ◌+◌, ◌≤◌, ◌<◌}
use native.Mathlib.Omega.{arith}
use mathlib.Core.Path.{◌≡◌, sym}
use mathlib.Core.Bool.{true}
use mathlib.Core.List.{List, [], ◌∷◌}
use mathlib.Core.Logic.{◌⊎◌, inl, inr, ⊎_elim}
use Rattle.model.specs.Rows.{Program, size, tag, num, kind, function, Item, global, header, expression, body_form_of, lead, past_items, step}
use Rattle.model.specs.Heads.{is_function, body}
pub use Rattle.model.proofs.Heads.{function_tag}
use Rattle.model.proofs.Parse.Spans.{spans_past, spans_range, spans_takes}
use Rattle.model.proofs.Parse.Reached.{RowsFit, Stands, stands_only, stands_split, stands_front, stands_inside, row_taken}
use Rattle.model.proofs.Parse.Grammar.{fits_tag, expression_follows, head_or_global}
use Rattle.model.proofs.Parse.Locations.{Location}

-- the body form of the function at row f, which ends at row e or before
pub record FunctionForm (p : Program) (f e : ℕ) : Type 0 where
  pub behind : List Item
  pub end : ℕ
  pub form : Stands p body_form_of behind (f + 1) end
  pub upto : end ≤ e

module _ {p : Program} where
  -- a function in an expression (tag 3), and one of the first (tag 11)
  inner_form : {f e : ℕ} {below : List Item} → tag p f ≡ 3 → Stands p (expression ∷ []) below f e → FunctionForm p f e
  unfolding lead kind
  inner_form {f} {e} {below} t s =
      let (more, says, others) = stands_only s in
      let k : kind (tag p f) ≡ function = rw t in
      let (m, form, after) = stands_split body_form_of (rw (← expression_follows p function (tag p f) (num p f) more k says) at others) in
      record { behind = expression ∷ below; end = m; form = form; upto = (spans_range after.spans).0 }

  outer_form : {f e : ℕ} {below : List Item} → Stands p (global ∷ []) below f e → FunctionForm p f e
  unfolding step
  outer_form {f} {e} {below} s =
      let (more, says, others) = stands_only s in
      record { behind = below; end = e; form = rw (← (fits_tag (tag p f) 11 _ body_form_of more says).1) at others; upto = omega arith }

  -- a function's row is taken by an expression (tag 3) or by a function of the first (tag 11)
  pub function_item : {x : Item} {below : List Item} {f e : ℕ} → Stands p (x ∷ []) below f e → is_function p f ≡ true → ((x ≡ expression) × (tag p f ≡ 3)) ⊎ ((x ≡ global) × (tag p f ≡ 11))
  function_item {x} {below} {f} {e} s h =
      let (more, says, others) = stands_only s in
      let item = head_or_global p x (tag p f) (num p f) more says in
      ⊎_elim
      (λ t. ⊎_elim (λ z. inl (z.0, t)) (λ z. absurd (omega arith)) (item (omega arith) (omega arith) (λ z. omega arith)))
      (λ t. ⊎_elim (λ z. absurd (omega arith)) (λ z. inr z) (item (omega arith) (omega arith) (λ z. omega arith)))
      (function_tag p f h)

  -- its body form
  pub function_form : {x : Item} {below : List Item} {f e : ℕ} → Stands p (x ∷ []) below f e → is_function p f ≡ true → FunctionForm p f e
  function_form s h = ⊎_elim (λ z. inner_form z.1 (rw z.0 at s)) (λ z. outer_form (rw z.0 at s)) (function_item s h)

  -- a function in items ends with the items
  pub stands_enclosed : {xs below : List Item} {s e : ℕ} → Stands p xs below s e → (f : ℕ) → s ≤ f → f < e → is_function p f ≡ true → past_items p body_form_of (f + 1) ≤ e
  stands_enclosed {xs} {below} {s} {e} st f lo hi h =
      let i = stands_inside f lo hi st in
      let (m, front, upto) = stands_front i.stands in
      let g = function_form front h in
      let z = spans_past g.form.spans in
      omega arith

  -- the header, and the body
  pub form_body : {f e : ℕ} (g : FunctionForm p f e) → Stands p (header ∷ []) (expression ∷ g.behind) (f + 1) (body p f) × Stands p (expression ∷ []) g.behind (body p f) g.end
  unfolding body
  form_body {f} g =
      let (m, front, others) = stands_split (header ∷ []) g.form in
      let z : m ≡ body p f = sym (spans_past front.spans) in
      (rw z at front, rw z at others)

module _ {p : Program} (fit : RowsFit p) where
  -- the body form of each function of the program, and its body
  pub row_form : (f : ℕ) → f < size p → is_function p f ≡ true → FunctionForm p f (size p)
  row_form f l h =
      let (item, below, e, s) = row_taken fit f l in
      let g = function_form s h in
      let w = spans_takes s.spans in
      record { behind = g.behind; end = g.end; form = g.form; upto = omega arith }

  pub body_location : (f : ℕ) → f < size p → is_function p f ≡ true → Location p (body p f)
  body_location f l h = let g = row_form f l h in record { below = g.behind; end = g.end; stands = (form_body g).1 }
