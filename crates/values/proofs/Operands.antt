-- The names that stand behind a head: of a build and a call the arguments, of a function the parameters.
use Prim.Native.Nat.{ℕ, zero, suc, ◌+◌, ◌-◌, ◌≤◌, ◌<◌}
use native.Mathlib.Omega.{arith}
use native.Mathlib.Decide.{ℕ_discrete}
use mathlib.Core.Path.{◌≡◌, refl, sym}
use mathlib.Core.Bool.{true, ◌&&◌}
use mathlib.Core.List.{List, [], ◌∷◌, ◌++◌, append-nil, append_assoc}
use mathlib.Core.Option.{some}
use lib.ListN.{replicate}
use lib.Dec.{eqb}
use borrow.Author.Tests.{ltb-true, leb-true}
use Rattle.model.specs.Limits.{max_arity}
use Rattle.model.specs.Reader.{fits}
use Rattle.model.specs.Rows.{Program, size, tag, num, kind, Item, constructor, global, header, parameter, expression, made, operand, arguments, lead, arity, is_name, step, declarations, whole}
use Rattle.model.specs.Rows.{Kind, build, call}
use Rattle.model.specs.Heads.{is_function}
use Rattle.model.proofs.Logic.{and_right}
use Rattle.model.proofs.Parse.Spans.{Spans, spans_unique, spans_none, spans_split, spans_first}
use Rattle.model.proofs.Parse.Reached.{RowsFit, reached_begin, reached_spans}
use Rattle.model.proofs.Parse.Grammar.{fits_some, fits_tag, follows}
use Rattle.model.proofs.Parse.Locations.{Location, location_follows}
use Rattle.model.proofs.Parse.Functions.{row_form, form_body}
use Rattle.model.proofs.Parse.Lengths.{ColumnsWhole, function_within}

module _ (p : Program) where
  -- n items of one row each, then others: the numbers of the rows, and the row after them
  pub leaves : (x : Item) (A : ℕ → Type 0) → ((t m : ℕ) (more : List Item) → step p x t m ≡ some more → (more ≡ []) × A m) → (n q : ℕ) {ys : List Item} {e : ℕ} → Spans p (replicate n x ++ ys) q e → Spans p ys (q + n) e × ((i : ℕ) → i < n → A (num p (q + i)))
  leaves x A leaf zero q {ys} {e} h = let z : q + 0 ≡ q = omega arith in (rw z h, λ i l. absurd (omega arith))
  leaves x A leaf (suc n) q {ys} {e} h =
      let f = spans_first h in
      let (None-more, here) = leaf (tag p q) (num p q) f.more f.says in
      let (after, there) = leaves x A leaf n (q + 1) (rw None-more at f.rest) in
      let z : q + suc n ≡ q + 1 + n = omega arith in (
        rw z after,
        λ i l. elim (ℕ_discrete i 0) [
          | yes y ↦ let w : q + i ≡ q = omega arith in rw w here
          | no y ↦ let w : q + i ≡ q + 1 + (i - 1) = omega arith in rw w (there (i - 1) (omega arith))
        ],
      )

  -- ... and nothing behind them
  leaves_end : (x : Item) (A : ℕ → Type 0) → ((t m : ℕ) (more : List Item) → step p x t m ≡ some more → (more ≡ []) × A m) → (n q : ℕ) {e : ℕ} → Spans p (replicate n x) q e → (q + n ≡ e) × ((i : ℕ) → i < n → A (num p (q + i)))
  leaves_end x A leaf n q {e} h =
      let k = append-nil (replicate n x) in
      let (after, numbers) = leaves x A leaf n q {ys = []} {e = e} (rw k h) in
      (spans_unique (spans_none (q + n)) after, numbers)

  is_name_below : (n : ℕ) → is_name p n ≡ true → n < p.names
  unfolding is_name
  is_name_below n h = ltb-true n p.names h

  -- operands and parameters are names
  named : (t k m : ℕ) (more : List Item) → fits (eqb t k && is_name p m) [] ≡ some more → (more ≡ []) × (m < p.names)
  named t k m more h =
      let (passes, same) = fits_some (eqb t k && is_name p m) [] more h in
      (sym same, is_name_below m (and_right (eqb t k) (is_name p m) passes))

  operand_leaf : (t m : ℕ) (more : List Item) → step p operand t m ≡ some more → (more ≡ []) × (m < p.names)
  unfolding step
  operand_leaf t m more h = named t 21 m more h

  parameter_leaf : (t m : ℕ) (more : List Item) → step p parameter t m ≡ some more → (more ≡ []) × (m < p.names)
  unfolding step
  parameter_leaf t m more h = named t 23 m more h

  -- an operand, then others
  operand_then : {ys : List Item} {q e : ℕ} → Spans p (operand ∷ ys) q e → Spans p ys (q + 1) e
  operand_then h = let f = spans_first h in rw (operand_leaf _ _ f.more f.says).0 at f.rest

  -- n names from row q on
  abbrev pub NamesFrom : ℕ → ℕ → Type 0
  NamesFrom q n = (i : ℕ) → i < n → num p (q + i) < p.names

  -- what a header says: the parameters' names, and the body
  header_spans : {q e : ℕ} → Spans p (header ∷ []) q e → (q + 1 + num p q ≡ e) × NamesFrom (q + 1) (num p q)
  unfolding step
  header_spans {q} {e} h =
      let f = spans_first h in
      let (t, same) = fits_tag (tag p q) 22 _ (replicate (num p q) parameter) f.more f.says in
      leaves_end parameter (λ m. m < p.names) parameter_leaf (num p q) (q + 1) (rw (append-nil f.more, ← same) at f.rest)

  arguments_spans : {q e : ℕ} → Spans p (arguments ∷ []) q e → (q + 1 + num p q ≡ e) × NamesFrom (q + 1) (num p q)
  unfolding step
  arguments_spans {q} {e} h =
      let f = spans_first h in
      let (t, same) = fits_tag (tag p q) 22 _ (replicate (num p q) operand) f.more f.says in
      leaves_end operand (λ m. m < p.names) operand_leaf (num p q) (q + 1) (rw (append-nil f.more, ← same) at f.rest)

  made_spans : {q e : ℕ} → Spans p (made ∷ []) q e → (q + 1 + arity p (num p q) ≡ e) × NamesFrom (q + 1) (arity p (num p q))
  unfolding step
  made_spans {q} {e} h =
      let f = spans_first h in
      let (t, same) = fits_tag (tag p q) 20 _ (replicate (arity p (num p q)) operand) f.more f.says in
      leaves_end operand (λ m. m < p.names) operand_leaf (arity p (num p q)) (q + 1) (rw (append-nil f.more, ← same) at f.rest)

  lead_spans : (k : Kind) {r : ℕ} (l : Location p r) → kind (tag p r) ≡ k → follows k (num p r) ≡ lead k ++ expression ∷ [] → (e : ℕ) × Spans p (lead k) (r + 1) e
  lead_spans k {r} l e f = let (m, front, others) = spans_split (lead k) (rw (e, f) at (location_follows l).spans) in (m, front)

  pub build_names : {r : ℕ} → Location p r → tag p r ≡ 2 → NamesFrom (r + 2) (arity p (num p (r + 1)))
  unfolding kind lead
  build_names {r} l t =
      let (e, h) = lead_spans build l (rw t) refl in
      let two : r + 1 + 1 ≡ r + 2 = omega arith in
      rw two at (made_spans h).1

  pub call_names : {r : ℕ} → Location p r → tag p r ≡ 4 → NamesFrom (r + 3) (num p (r + 2))
  unfolding kind lead
  call_names {r} l t =
      let (e, h) = lead_spans call l (rw t) refl in
      let two : r + 1 + 1 ≡ r + 2 = omega arith in
      let three : r + 2 + 1 ≡ r + 3 = omega arith in
      rw three at (arguments_spans (rw two at (operand_then h))).1

  pub function_names : RowsFit p → ColumnsWhole p → (f : ℕ) → is_function p f ≡ true → NamesFrom (f + 2) (num p (f + 1))
  function_names fit w f h =
      let (front, others) = form_body (row_form fit f (function_within w f h) h) in
      let two : f + 1 + 1 ≡ f + 2 = omega arith in
      rw two at (header_spans front.spans).1

  -- a constructor has at most eight arguments
  constructor_leaf : (t m : ℕ) (more : List Item) → step p constructor t m ≡ some more → (more ≡ []) × (m ≤ max_arity)
  unfolding step
  constructor_leaf t m more h =
      let (passes, same) = fits_some _ _ more h in
      (sym same, leb-true m max_arity (and_right (eqb t 10) _ passes))

  pub few_arguments : RowsFit p → (k : ℕ) → k < p.constructors → arity p k ≤ max_arity
  unfolding arity whole declarations
  few_arguments fit k l =
      let spans : Spans p (replicate p.constructors constructor ++ (replicate p.functions global ++ expression ∷ [])) 0 (size p) = rw append_assoc at (reached_spans fit 0 reached_begin) in
      let z : 0 + k ≡ k = omega arith in
      rw z at ((leaves constructor (λ m. m ≤ max_arity) constructor_leaf p.constructors 0 spans).1 k l)
