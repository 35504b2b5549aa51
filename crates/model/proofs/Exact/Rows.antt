-- Refusal 3; and of rows that fit: each is taken by an item of the grammar, and a row that reads a name reads one below V.
use Prim.Native.Nat.{ℕ, ◌+◌, ◌<◌}
use mathlib.Core.Path.{◌≡◌, refl, ◌∙◌, ap}
use mathlib.Core.Bool.{Bool, true, false, ◌||◌}
use mathlib.Core.Logic.{◌↔◌, ◌⊎◌, inl, inr, ⊎_elim}
use mathlib.Core.List.{List, []}
use mathlib.Core.Option.{some, none, none-ne-some, map-eq-none_iff}
use lib.Dec.{eqb}
use borrow.Author.Tests.{ltb-true, eqb-true}
use Rattle.model.specs.declared.Verdict.TheVariants.{Row}
use Rattle.model.specs.Reader.{first_wrong_of}
use Rattle.model.specs.Rows.{Program, size, tag, num, kind, is_name, Item, constructor, global, header, parameter, expression, made, operand, arguments, branches, pattern, expression_step, step, whole, row_check_of}
use Rattle.model.specs.Scopes.{uses}
use Rattle.model.proofs.Logic.{true_false, test, and_right}
use Rattle.model.proofs.Parse.Grammar.{fits_some, fits_tag, pattern_leaf}
use Rattle.model.proofs.Exact.Tests.{eqb_iff, or_iff}
use Rattle.model.proofs.Exact.Reading.{Taken, ahead_taken, first_wrong_iff}

pub row_none : (p : Program) → (row_check_of p ≡ none) ↔ (first_wrong_of (step p) p.rows (whole p) ≡ none)
unfolding row_check_of
row_none p = map-eq-none_iff (λ r. Row (4 + r)) (first_wrong_of (step p) p.rows (whole p))

-- a row with a tag k that reads no name is no row that reads one
unused : {A : Type 0} (t k : ℕ) → t ≡ k → uses k ≡ false → uses t ≡ true → A
unused t k e n u = true_false u (ap uses e ∙ n)

-- the heads that read a name
expression_named : (p : Program) (t n : ℕ) (more : List Item) → (t ≡ 1) ⊎ ((t ≡ 8) ⊎ ((t ≡ 21) ⊎ (t ≡ 33))) → expression_step p t n ≡ some more → is_name p n ≡ true
unfolding expression_step kind
expression_named p t n more (inl e) h = (fits_some (is_name p n) _ more (rw e at h)).0
expression_named p t n more (inr (inl e)) h = (fits_some (is_name p n) _ more (rw e at h)).0
expression_named p t n more (inr (inr (inl e))) h = absurd (none-ne-some more (rw e at h))
expression_named p t n more (inr (inr (inr e))) h = absurd (none-ne-some more (rw e at h))

used_tag : (t : ℕ) → uses t ≡ true → (t ≡ 1) ⊎ ((t ≡ 8) ⊎ ((t ≡ 21) ⊎ (t ≡ 33)))
unfolding uses
used_tag t u = (is_tag 1 (is_tag 8 (is_tag 21 (eqb_iff t 33)))).0 u
  where
    is_tag : (k : ℕ) {b : Bool} {B : Type 0} → (b ≡ true) ↔ B → (eqb t k || b ≡ true) ↔ ((t ≡ k) ⊎ B)
    is_tag k {b} e = or_iff (eqb t k) b (eqb_iff t k) e

step_named : (p : Program) (item : Item) (t n : ℕ) (more : List Item) → step p item t n ≡ some more → uses t ≡ true → is_name p n ≡ true
unfolding step uses
step_named p constructor t n more h u = unused t 10 (fits_tag t 10 _ _ more h).0 refl u
step_named p global t n more h u = unused t 11 (fits_tag t 11 _ _ more h).0 refl u
step_named p header t n more h u = unused t 22 (fits_tag t 22 _ _ more h).0 refl u
step_named p parameter t n more h u = unused t 23 (fits_tag t 23 _ _ more h).0 refl u
step_named p expression t n more h u = expression_named p t n more (used_tag t u) h
step_named p made t n more h u = unused t 20 (fits_tag t 20 _ _ more h).0 refl u
step_named p operand t n more h u = and_right (eqb t 21) (is_name p n) (fits_some _ [] more h).0
step_named p arguments t n more h u = unused t 22 (fits_tag t 22 _ _ more h).0 refl u
step_named p branches t n more h u = unused t 25 (fits_tag t 25 _ _ more h).0 refl u
step_named p (pattern d) t n more h u =
    test (eqb t 31) (λ e. unused t 31 (eqb-true t 31 e) refl u)
    (λ e. ⊎_elim (λ z. unused t 30 z refl u) (⊎_elim (λ z. unused t 32 z refl u) (λ z. z.1)) (pattern_leaf p d t n more e h).1)

-- a row that reads a name reads one below V
pub reads_name : (p : Program) → first_wrong_of (step p) p.rows (whole p) ≡ none → (r : ℕ) → r < size p → uses (tag p r) ≡ true → num p r < p.names
unfolding tag num is_name
reads_name p fit r b u =
    let k : Taken (step p) p.rows r = ahead_taken (step p) p.rows (whole p) (size p) [] r ((first_wrong_iff (step p) p.rows (whole p)).0 fit) b in
    ltb-true (num p r) p.names (step_named p k.item (tag p r) (num p r) k.more k.said u)
