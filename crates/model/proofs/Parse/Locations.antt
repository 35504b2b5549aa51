-- The heads of a program, and where a head leads.
use Prim.Native.Nat.{ℕ, ◌+◌, ◌≤◌, ◌<◌}
use native.Mathlib.Omega.{arith}
use mathlib.Core.Path.{◌≡◌, refl, sym, ◌∙◌}
use mathlib.Core.Bool.{true}
use mathlib.Core.List.{List, [], ◌∷◌}
use mathlib.Core.Logic.{⊎_elim}
use mathlib.Core.Option.{some}
use lib.Dec.{leb}
use borrow.Author.Tests.{leb-true, le-leb}
use Rattle.model.specs.Rows.{Program, size, tag, num, kind, is_head_of, Item, expression, lead, declarations, whole}
use Rattle.model.specs.Scopes.{rest}
use Rattle.model.specs.Heads.{no_head, head_at, start}
use Rattle.model.proofs.Logic.{and_left, and_right, and_intro}
use Rattle.model.proofs.Parse.Spans.{spans_past}
use Rattle.model.proofs.Parse.Reached.{RowsFit, Reached, Stands, stands_only, stands_split, reached_stands, whole_stands, row_taken}
use Rattle.model.proofs.Parse.Grammar.{expression_kind, expression_tag, expression_follows, follows, head_or_global}
use Rattle.model.proofs.Parse.Heads.{rest_of, rest_of_head, known_kind}

-- an expression stands at row r
pub record Location (p : Program) (r : ℕ) : Type 0 where
  pub below : List Item
  pub end : ℕ
  pub stands : Stands p (expression ∷ []) below r end

-- the tag of a head
pub head_range : (t : ℕ) → is_head_of t ≡ true → (1 ≤ t) × (t ≤ 9)
unfolding is_head_of
head_range t h = (leb-true 1 t (and_left (leb 1 t) (leb t 9) h), leb-true t 9 (and_right (leb 1 t) (leb t 9) h))

module _ {p : Program} where
  -- behind the head's row
  pub location_follows : {r : ℕ} (l : Location p r) → Stands p (follows (kind (tag p r)) (num p r)) l.below (r + 1) l.end
  location_follows {r} l =
      let (more, says, s) = stands_only l.stands in
      rw (expression_follows p (kind (tag p r)) (tag p r) (num p r) more refl says) s

  -- its tag is from 1 to 9, and something stands there
  pub location_head : {r : ℕ} → Location p r → is_head_of (tag p r) ≡ true
  unfolding is_head_of
  location_head {r} l =
      let (more, says, s) = stands_only l.stands in
      let (lo, hi) = expression_tag p (tag p r) (num p r) more says in
      and_intro (leb 1 (tag p r)) (leb (tag p r) 9) (le-leb 1 (tag p r) lo) (le-leb (tag p r) 9 hi)

  pub location_known : {r : ℕ} → Location p r → head_at p r ≡ no_head → ⊥
  location_known {r} l h =
      let (more, says, s) = stands_only l.stands in
      expression_kind p (tag p r) (num p r) more says (known_kind p r no_head h)

  -- the lead, and the rest
  pub rest_stands : {r r' : ℕ} (l : Location p r) → rest_of (head_at p r) ≡ some r' → Stands p (lead (kind (tag p r))) (expression ∷ l.below) (r + 1) r' × Stands p (expression ∷ []) l.below r' l.end
  unfolding rest
  rest_stands {r} {r'} l h =
      let (follow, same) = rest_of_head p r r' h in
      let (m, front, others) = stands_split (lead (kind (tag p r))) (rw follow at (location_follows l)) in
      let z : m ≡ r' = sym (spans_past front.spans) ∙ same in
      (rw z at front, rw z at others)

  pub rest_location : {r r' : ℕ} → Location p r → rest_of (head_at p r) ≡ some r' → Location p r'
  rest_location l h = record { below = l.below; end = l.end; stands = (rest_stands l h).1 }

module _ {p : Program} (fit : RowsFit p) where
  -- where an expression is reached
  pub reached_location : {r : ℕ} {items : List Item} → Reached p (expression ∷ items) r → Location p r
  reached_location {r} {items} h =
      let (e, s) = reached_stands fit (expression ∷ []) h in
      record { below = items; end = e; stands = s }

  -- each row with a tag from 1 to 9 is a head
  pub head_location : {r : ℕ} → r < size p → is_head_of (tag p r) ≡ true → Location p r
  head_location {r} l h =
      let (item, below, e, s) = row_taken fit r l in
      let (more, says, others) = stands_only s in
      let (lo, hi) = head_range (tag p r) h in
      ⊎_elim (λ z. record { below = below; end = e; stands = rw z.0 at s }) (λ z. absurd (omega arith))
      (head_or_global p item (tag p r) (num p r) more says lo (omega arith) (λ z. omega arith))

  -- the declarations, and the start expression
  pub start_stands : Stands p (declarations p) (expression ∷ []) 0 (start p) × Stands p (expression ∷ []) [] (start p) (size p)
  unfolding whole start
  start_stands =
      let (m, front, others) = stands_split (declarations p) (whole_stands fit) in
      let z : m ≡ start p = sym (spans_past front.spans) in
      (rw z at front, rw z at others)

  pub start_location : Location p (start p)
  start_location = record { below = []; end = size p; stands = start_stands.1 }
