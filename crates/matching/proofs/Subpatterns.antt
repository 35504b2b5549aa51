-- The patterns of a program: a constructor pattern and its subpatterns, one after the other.
use Prim.Native.Nat.{ℕ, zero, suc, ◌+◌, ◌-◌, ◌≤◌, ◌<◌}
use native.Mathlib.Omega.{arith}
use mathlib.Core.Path.{◌≡◌, refl, sym}
use mathlib.Core.Bool.{true, ◌&&◌, ◌||◌}
use mathlib.Core.Option.{some}
use mathlib.Core.List.{List, [], ◌∷◌, append-nil}
use mathlib.Core.Logic.{◌⊎◌, ⊎_elim}
use lib.ListN.{get_or, replicate}
use lib.Dec.{eqb, leb}
use borrow.Author.Tests.{eqb-true, ltb-true, ne_eqb, eq-eqb}
use Rattle.model.specs.Rows.{Program, size, tag, num, arity, Item, constructor, global, header, parameter, expression, made, operand, arguments, branches, pattern, is_name, step, pattern_step}
use Rattle.model.specs.Closed.{subpattern}
use Rattle.model.proofs.Logic.{test, and_left, and_right, or_cases}
use Rattle.model.proofs.Parse.Spans.{Spans, FirstRow, spans_past, spans_none, spans_range, spans_split, spans_join, spans_first}
use Rattle.model.proofs.Parse.Reached.{RowsFit, row_taken, stands_only}
use Rattle.model.proofs.Parse.Grammar.{fits_tag, fits_some, expression_tag, pattern_made, pattern_leaf}
use Rattle.layout.specs.Tables.{Ends}
use Rattle.matching.specs.Patterns.{Pattern, Standing}

-- of items of one sort that stand from row r, the one with number i stands at row `at`
pub record Repeated (p : Program) (x : Item) (i r : ℕ) : Type 0 where
  pub at : ℕ
  pub end : ℕ
  pub before : Spans p (replicate i x) r at
  pub item : Spans p (x ∷ []) at end
  pub with : Spans p (replicate (i + 1) x) r end

-- the first subpattern stands behind the pattern's row
pub subpattern_first : (p : Program) (d q : ℕ) → q + 1 ≡ subpattern p (suc d) q 0
unfolding subpattern
subpattern_first p d q = sym (spans_past (spans_none (q + 1)))

module _ {p : Program} where
  repeated : (x : Item) (a i : ℕ) {r e : ℕ} → i < a → Spans p (replicate a x) r e → Repeated p x i r
  repeated x zero i h s = absurd (omega arith)
  repeated x (suc a) zero {r} h s =
      let (m, front, others) = spans_split (x ∷ []) s in
      record { at = r; end = m; before = spans_none r; item = front; with = front }
  repeated x (suc a) (suc i) h s =
      let (m, front, others) = spans_split (x ∷ []) s in
      let k = repeated x a i (omega arith) others in
      let z : suc i + 1 ≡ suc (i + 1) = omega arith in
      record { at = k.at; end = k.end; before = spans_join front k.before; item = k.item; with = rw z (spans_join front k.with) }

  pattern_spans : {d q : ℕ} (h : Pattern p d q) → Spans p (pattern d ∷ []) q h.end
  pattern_spans h = record { reads = h.reads }

  -- the first row of a pattern
  row_of_pattern : {d q : ℕ} (h : Pattern p d q) → FirstRow p (pattern d) [] q h.end
  row_of_pattern h = spans_first (pattern_spans h)

  -- a pattern has a level at least, a row, and a tag from 30 on
  pub pattern_deep : {d q : ℕ} → Pattern p d q → 1 ≤ d
  pattern_deep {d} {q} h =
      let f = row_of_pattern h in
      test (eqb (tag p q) 31) (λ e. (pattern_made p d (tag p q) (num p q) f.more e f.says).0)
      (λ e. (pattern_leaf p d (tag p q) (num p q) f.more e f.says).0)

  pub pattern_within : {d q : ℕ} → Pattern p d q → q < size p
  pattern_within h = (row_of_pattern h).below

  -- its subpatterns
  subpattern_at : {d q : ℕ} → Pattern p (suc d) q → eqb (tag p q) 31 ≡ true → (i : ℕ) → i < arity p (num p q) → Repeated p (pattern d) i (q + 1)
  subpattern_at {d} {q} h e i l =
      let f = row_of_pattern h in
      let (deep, same) = pattern_made p (suc d) (tag p q) (num p q) f.more e f.says in
      let one : suc d - 1 ≡ d = omega arith in
      let nil = append-nil f.more in
      repeated (pattern d) (arity p (num p q)) i l (rw (nil, ← same, one) at f.rest)

  pub subpattern_stands : {d q : ℕ} → Pattern p (suc d) q → eqb (tag p q) 31 ≡ true → (i : ℕ) → i < arity p (num p q) → Pattern p d (subpattern p (suc d) q i)
  unfolding subpattern
  subpattern_stands {d} {q} h e i l =
      let k = subpattern_at h e i l in
      let one : suc d - 1 ≡ d = omega arith in
      let z = spans_past k.before in
      rw (one, z) (record { end = k.end; reads = k.item.reads })

  -- the table has the row of the next one
  pub subpattern_next : {afters : List ℕ} → Ends p afters → {d q : ℕ} → Pattern p (suc d) q → eqb (tag p q) 31 ≡ true → (i : ℕ) → i < arity p (num p q) → get_or afters (subpattern p (suc d) q i) 0 ≡ subpattern p (suc d) q (i + 1)
  unfolding subpattern
  subpattern_next a {d} {q} h e i l =
      let k = subpattern_at h e i l in
      let one : suc d - 1 ≡ d = omega arith in
      rw (one, spans_past k.before, spans_past k.with) (a.after_pattern k.at d k.end k.item.reads)

  -- each is behind the pattern's row
  pub subpattern_behind : {d q : ℕ} → Pattern p (suc d) q → eqb (tag p q) 31 ≡ true → (i : ℕ) → i < arity p (num p q) → q + 1 ≤ subpattern p (suc d) q i
  unfolding subpattern
  subpattern_behind {d} {q} h e i l =
      let k = subpattern_at h e i l in
      let one : suc d - 1 ≡ d = omega arith in
      rw (one, spans_past k.before) (spans_range k.before).0

-- only a pattern takes a row with a tag from 30 on
taken_pattern : (p : Program) (item : Item) (t n : ℕ) (more : List Item) → step p item t n ≡ some more → 30 ≤ t → (d : ℕ) × (item ≡ pattern d)
unfolding step
taken_pattern p constructor t n more h e = let z = (fits_tag t 10 _ _ more h).0 in absurd (omega arith)
taken_pattern p global t n more h e = let z = (fits_tag t 11 _ _ more h).0 in absurd (omega arith)
taken_pattern p header t n more h e = let z = (fits_tag t 22 _ _ more h).0 in absurd (omega arith)
taken_pattern p parameter t n more h e = let z = (fits_tag t 23 _ _ more h).0 in absurd (omega arith)
taken_pattern p expression t n more h e = let z = (expression_tag p t n more h).1 in absurd (omega arith)
taken_pattern p made t n more h e = let z = (fits_tag t 20 _ _ more h).0 in absurd (omega arith)
taken_pattern p operand t n more h e = let z = (fits_tag t 21 _ _ more h).0 in absurd (omega arith)
taken_pattern p arguments t n more h e = let z = (fits_tag t 22 _ _ more h).0 in absurd (omega arith)
taken_pattern p branches t n more h e = let z = (fits_tag t 25 _ _ more h).0 in absurd (omega arith)
taken_pattern p (pattern d) t n more h e = (d, refl)

pub stands_from : {p : Program} → RowsFit p → (q : ℕ) → q < size p → 30 ≤ tag p q → Standing p q
stands_from {p} fit q l e =
    let (item, below, end, s) = row_taken fit q l in
    let (more, says, others) = stands_only s in
    let (d, same) = taken_pattern p item (tag p q) (num p q) more says e in
    record { depth = d; stands = record { end = end; reads = (rw same at s).spans.reads } }

pub pattern_stands : {p : Program} → RowsFit p → (q : ℕ) → q < size p → tag p q ≡ 31 → Standing p q
pattern_stands fit q l e = stands_from fit q l (omega arith)

-- the number of a constructor pattern is a constructor, that of a pattern with tag 30 or 33 a name
made_step : (p : Program) (d t n : ℕ) (more : List Item) → step p (pattern d) t n ≡ some more → eqb t 31 ≡ true → n < p.constructors
unfolding step pattern_step
made_step p d t n more h e = ltb-true n p.constructors (and_right (leb 1 d) _ (fits_some _ _ more (rw (e, pattern_step) at h)).0)

name_step : (p : Program) (d t n : ℕ) (more : List Item) → step p (pattern d) t n ≡ some more → (t ≡ 30) ⊎ (t ≡ 33) → n < p.names
unfolding step pattern_step is_name
name_step p d t n more h e =
    let no = ne_eqb t 31 (λ z. ⊎_elim (λ x. omega arith) (λ x. omega arith) e) in
    let leaf = and_right (leb 1 d) _ (fits_some _ _ more (rw (no, pattern_step) at h)).0 in
    ⊎_elim (λ a. ltb-true n p.names (and_right (eqb t 30) _ a))
    (λ k. ⊎_elim (λ b. let z = eqb-true t 32 (and_left (eqb t 32) (eqb n 0) b) in absurd (⊎_elim (λ x. omega arith) (λ x. omega arith) e))
    (λ b. ltb-true n p.names (and_right (eqb t 33) _ b)) (or_cases (eqb t 32 && eqb n 0) (eqb t 33 && is_name p n) k))
    (or_cases (eqb t 30 && is_name p n) (eqb t 32 && eqb n 0 || eqb t 33 && is_name p n) leaf)

pub pattern_constructor : {p : Program} {q : ℕ} → Standing p q → tag p q ≡ 31 → num p q < p.constructors
pattern_constructor {p} {q} h e = let f = spans_first {p = p} (record { reads = h.stands.reads }) in made_step p h.depth (tag p q) (num p q) f.more f.says (eq-eqb (tag p q) 31 e)

pub pattern_name : {p : Program} {q : ℕ} → Standing p q → (tag p q ≡ 30) ⊎ (tag p q ≡ 33) → num p q < p.names
pattern_name {p} {q} h e = let f = spans_first {p = p} (record { reads = h.stands.reads }) in name_step p h.depth (tag p q) (num p q) f.more f.says e
