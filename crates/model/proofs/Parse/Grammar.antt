-- What an item of the grammar says to a row that fits it: the row's tag, and what follows the row.
use Prim.Native.Nat.{ℕ, ◌-◌, ◌≤◌}
use native.Mathlib.Omega.{arith}
use mathlib.Core.Path.{◌≡◌, refl}
use mathlib.Core.Bool.{Bool, true, false, ◌&&◌, ◌||◌}
use mathlib.Core.List.{List, [], ◌∷◌, ◌++◌}
use mathlib.Core.Logic.{◌⊎◌, inl, inr, ⊎_elim}
use mathlib.Core.Option.{some, none-ne-some}
use lib.ListN.{replicate}
use native.Mathlib.Decide.{dec_lt}
use lib.Dec.{leb, eqb}
use borrow.Author.Tests.{eqb-true, leb-true}
use Rattle.model.specs.Reader.{fits}
use Rattle.model.specs.Rows.{Program, Kind, give, build, function, call, send, spawn, self, case, receive, other, kind, Item, constructor, global, header, parameter, expression, made, operand, arguments, branches, pattern, branch_items, lead, arity, is_name, expression_step, pattern_step, step}
use Rattle.model.proofs.Logic.{test, and_left, and_right, or_cases}
use Rattle.model.proofs.Heads.{kind_other}
pub use Rattle.model.proofs.Heads.{code, kind_tag}
pub use Rattle.model.proofs.Reader.{fits_some}

-- what fits has its tag, where the test begins with that
pub fits_tag : {I : Type 0} (t k : ℕ) (b : Bool) (items more : List I) → fits (eqb t k && b) items ≡ some more → (t ≡ k) × (items ≡ more)
fits_tag t k b items more h =
    let (passes, same) = fits_some (eqb t k && b) items more h in
    (eqb-true t k (and_left (eqb t k) b passes), same)

-- a tag of some kind is from 1 to 9
kind_range : (t : ℕ) → (kind t ≡ other → ⊥) → (1 ≤ t) × (t ≤ 9)
unfolding kind
kind_range t known = elim (dec_lt 9 t) [
  | yes h ↦ absurd (known (kind_other t h))
  | no h ↦ elim (dec_lt 0 t) [ yes l ↦ (l, omega arith) | no l ↦ let z : t ≡ 0 = omega arith in absurd (known (rw z)) ]
]

-- what follows the row of a head
abbrev pub follows : Kind → ℕ → List Item
follows give n = []
follows build n = lead build ++ expression ∷ []
follows function n = lead function ++ expression ∷ []
follows call n = lead call ++ expression ∷ []
follows send n = lead send ++ expression ∷ []
follows spawn n = lead spawn ++ expression ∷ []
follows self n = lead self ++ expression ∷ []
follows case n = branches ∷ []
follows receive n = branch_items n
follows other n = []

module _ (p : Program) where
  -- what an expression says: its row has a kind, a tag from 1 to 9, and is followed by what the kind asks for
  pub expression_kind : (t n : ℕ) (more : List Item) → step p expression t n ≡ some more → kind t ≡ other → ⊥
  unfolding step expression_step
  expression_kind t n more h e = none-ne-some more (rw (e, expression_step) at h)

  pub expression_tag : (t n : ℕ) (more : List Item) → step p expression t n ≡ some more → (1 ≤ t) × (t ≤ 9)
  expression_tag t n more h = kind_range t (expression_kind t n more h)

  pub expression_follows : (k : Kind) (t n : ℕ) (more : List Item) → kind t ≡ k → step p expression t n ≡ some more → follows k n ≡ more
  unfolding step expression_step
  expression_follows give t n more e h = (fits_some _ _ more (rw (e, expression_step) at h)).1
  expression_follows build t n more e h = (fits_some _ _ more (rw (e, expression_step) at h)).1
  expression_follows function t n more e h = (fits_some _ _ more (rw (e, expression_step) at h)).1
  expression_follows call t n more e h = (fits_some _ _ more (rw (e, expression_step) at h)).1
  expression_follows send t n more e h = (fits_some _ _ more (rw (e, expression_step) at h)).1
  expression_follows spawn t n more e h = (fits_some _ _ more (rw (e, expression_step) at h)).1
  expression_follows self t n more e h = (fits_some _ _ more (rw (e, expression_step) at h)).1
  expression_follows case t n more e h = (fits_some _ _ more (rw (e, expression_step) at h)).1
  expression_follows receive t n more e h = (fits_some _ _ more (rw (e, expression_step) at h)).1
  expression_follows other t n more e h = absurd (expression_kind t n more h e)

  -- a constructor pattern, and the others
  pub pattern_made : (d t n : ℕ) (more : List Item) → eqb t 31 ≡ true → step p (pattern d) t n ≡ some more → (1 ≤ d) × (replicate (arity p n) (pattern (d - 1)) ≡ more)
  unfolding step pattern_step
  pattern_made d t n more e h =
      let (passes, same) = fits_some _ _ more (rw (e, pattern_step) at h) in
      (leb-true 1 d (and_left (leb 1 d) _ passes), same)

  pub pattern_leaf : (d t n : ℕ) (more : List Item) → eqb t 31 ≡ false → step p (pattern d) t n ≡ some more → (1 ≤ d) × ((t ≡ 30) ⊎ ((t ≡ 32) ⊎ ((t ≡ 33) × (is_name p n ≡ true)))) × ([] ≡ more)
  unfolding step pattern_step
  pattern_leaf d t n more e h =
      let (passes, same) = fits_some _ _ more (rw (e, pattern_step) at h) in
      let leaf = and_right (leb 1 d) _ passes in (
        leb-true 1 d (and_left (leb 1 d) _ passes),
        ⊎_elim (λ a. inl (eqb-true t 30 (and_left (eqb t 30) (is_name p n) a)))
            (λ a. inr (⊎_elim (λ b. inl (eqb-true t 32 (and_left (eqb t 32) (eqb n 0) b)))
            (λ b. inr (eqb-true t 33 (and_left (eqb t 33) (is_name p n) b), and_right (eqb t 33) (is_name p n) b))
            (or_cases (eqb t 32 && eqb n 0) (eqb t 33 && is_name p n) a)))
            (or_cases (eqb t 30 && is_name p n) (eqb t 32 && eqb n 0 || eqb t 33 && is_name p n) leaf),
        same,
      )

  pub pattern_tag : (d t n : ℕ) (more : List Item) → step p (pattern d) t n ≡ some more → 30 ≤ t
  pattern_tag d t n more h =
      test (eqb t 31) (λ e. let z = eqb-true t 31 e in omega arith)
      (λ e. ⊎_elim (λ z. omega arith) (⊎_elim (λ z. omega arith) (λ z. omega arith)) (pattern_leaf d t n more e h).1)

  -- a row with a tag from 1 to 9 is taken by an expression, one with tag 11 by a function
  pub head_or_global : (item : Item) (t n : ℕ) (more : List Item) → step p item t n ≡ some more → 1 ≤ t → t ≤ 11 → (t ≡ 10 → ⊥) → ((item ≡ expression) × (t ≤ 9)) ⊎ ((item ≡ global) × (t ≡ 11))
  unfolding step
  head_or_global constructor t n more h lo hi ne = absurd (ne (fits_tag t 10 _ _ more h).0)
  head_or_global global t n more h lo hi ne = inr (refl, (fits_tag t 11 _ _ more h).0)
  head_or_global header t n more h lo hi ne = let z = (fits_tag t 22 _ _ more h).0 in absurd (omega arith)
  head_or_global parameter t n more h lo hi ne = let z = (fits_tag t 23 _ _ more h).0 in absurd (omega arith)
  head_or_global expression t n more h lo hi ne = inl (refl, (expression_tag t n more h).1)
  head_or_global made t n more h lo hi ne = let z = (fits_tag t 20 _ _ more h).0 in absurd (omega arith)
  head_or_global operand t n more h lo hi ne = let z = (fits_tag t 21 _ _ more h).0 in absurd (omega arith)
  head_or_global arguments t n more h lo hi ne = let z = (fits_tag t 22 _ _ more h).0 in absurd (omega arith)
  head_or_global branches t n more h lo hi ne = let z = (fits_tag t 25 _ _ more h).0 in absurd (omega arith)
  head_or_global (pattern d) t n more h lo hi ne = let z = pattern_tag d t n more h in absurd (omega arith)
