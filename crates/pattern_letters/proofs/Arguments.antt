-- The heads of a name that a subpattern leaves, and the arguments of a value with their subpatterns.
use Prim.Native.Nat.{ℕ, ◌+◌, ◌-◌, ◌≤◌, ◌<◌}
use native.Mathlib.Omega.{arith}
use mathlib.Core.Path.{◌≡◌, refl, sym, ◌∙◌, ap}
use mathlib.Core.Bool.{Bool, true, false, not, ◌||◌}
use mathlib.Core.List.{List}
use mathlib.Core.Logic.{◌⊎◌, inl, inr, ⊎_elim}
use lib.Dec.{eqb}
use lib.ListN.{length, get_or}
use borrow.Author.Tests.{eqb-true, eq-eqb, ne_eqb, not-true, not-false}
use Rattle.bits.specs.Bits.{member}
use Rattle.model.specs.declared.Sizes.{Sizes}
use Rattle.model.specs.Limits.{max_arity, max_depth, max_rows}
use Rattle.model.specs.Index.{implies, first}
use Rattle.model.specs.Words.{columns}
use Rattle.model.specs.Rows.{Program, program, tag, num, arity, is_head_of}
use Rattle.model.specs.Letters.{head_count}
use Rattle.model.specs.Tables.{tables}
use Rattle.model.specs.Closed.{argument, subpattern, is_same_constructor}
use Rattle.model.proofs.Logic.{true_false, or_cases, or_false_left, or_false_right, implies_intro}
use Rattle.model.proofs.Index.{First, first_is}
use Rattle.model.proofs.Parse.Lengths.{row_location}
use Rattle.lists.specs.Ready.{Ready}
use Rattle.lists.proofs.Facts.{rows_fit, columns_whole}
use Rattle.matching.specs.Patterns.{Pattern}
use Rattle.matching.proofs.Subpatterns.{pattern_within, pattern_constructor, subpattern_first, subpattern_stands, subpattern_next}
use Rattle.matching.proofs.Arguments.{built_row}
use Rattle.layout.specs.Tables.{Ends}
use Rattle.values.proofs.Operands.{few_arguments, build_names}
use Rattle.pattern_heads.specs.Fitting.{begins, does_head_fit, has_head, MatchTables}
use Rattle.pattern_letters.specs.Picked.{leaves_head}

-- a pattern's row is small
pub row_small : {ws : List ℕ} {s : Sizes} {d q : ℕ} → Ready ws s → Pattern (program ws s) d q → (s.names + q < 4096) × (q < max_rows)
unfolding program columns
row_small {ws} {s} {d} {q} h stands = (omega (arith, pattern_within stands, h.limits.rows, h.limits.names), omega (arith, pattern_within stands, h.limits.rows))

-- the patterns that not every value may match, by what the code finds of the tag
module _ (p : Program) (q : ℕ) where
  pub asks_made : (x : ℕ) → x ≡ tag p q → x ≡ 31 → true ≡ (eqb (tag p q) 31 || eqb (tag p q) 33)
  asks_made x e f = rw (eq-eqb (tag p q) 31 (sym e ∙ f))

  pub asks_held : (x : ℕ) → x ≡ tag p q → (x ≡ 31 → ⊥) → eqb x 33 ≡ (eqb (tag p q) 31 || eqb (tag p q) 33)
  asks_held x e f = rw (ne_eqb (tag p q) 31 (λ z. f (e ∙ z)), e)

  pub asked : (b : Bool) → b ≡ (eqb (tag p q) 31 || eqb (tag p q) 33) → b ≡ true → (tag p q ≡ 31) ⊎ (tag p q ≡ 33)
  asked b e f = ⊎_elim (λ z. inl (eqb-true _ _ z)) (λ z. inr (eqb-true _ _ z)) (or_cases (eqb (tag p q) 31) (eqb (tag p q) 33) (sym e ∙ f))

  pub unasked : (b : Bool) → b ≡ (eqb (tag p q) 31 || eqb (tag p q) 33) → b ≡ false → (tag p q ≡ 31 → ⊥) × (tag p q ≡ 33 → ⊥)
  unasked b e f =
      let z = sym e ∙ f in
      (λ x. true_false (eq-eqb (tag p q) 31 x) (or_false_left (eqb (tag p q) 31) _ z), λ x. true_false (eq-eqb (tag p q) 33 x) (or_false_right (eqb (tag p q) 31) _ z))

-- one head of a name: whether some value has it, and whether the subpattern leaves it
module _ {ws : List ℕ} {s : Sizes} {w : ℕ} {fitting names : List ℕ} (g : MatchTables ws s w fitting names) (n q h : ℕ) (low : n < s.names) (small : h < s.constructors + 2) where
  name_has : (a : Bool) → a ≡ member names 2 n h → a ≡ has_head (program ws s) (tables ws s) n h
  unfolding has_head program head_count
  name_has a e = e ∙ g.name_heads.has n h low small

  pub head_there : (a : Bool) → a ≡ member names 2 n h → not a ≡ false → has_head (program ws s) (tables ws s) n h ≡ true
  head_there a e f = sym (name_has a e) ∙ not-false a f

  pub absent_left : (a : Bool) → a ≡ member names 2 n h → not a ≡ true → leaves_head (program ws s) (tables ws s) n q h ≡ true
  unfolding leaves_head implies
  absent_left a e f = rw (sym (name_has a e) ∙ not-true a f)

  pub fitting_left : (b : Bool) → b ≡ does_head_fit (program ws s) (tables ws s) n q h → b ≡ true → leaves_head (program ws s) (tables ws s) n q h ≡ true
  unfolding leaves_head
  fitting_left b e f = implies_intro (has_head (program ws s) (tables ws s) n h) _ (λ _. sym e ∙ f)

  pub unfit_lost : (a b : Bool) → a ≡ member names 2 n h → not a ≡ false → b ≡ does_head_fit (program ws s) (tables ws s) n q h → b ≡ false → leaves_head (program ws s) (tables ws s) n q h ≡ false
  unfolding leaves_head implies
  unfit_lost a b e f k l = rw (head_there a e f) (sym k ∙ l)

  -- the next head of a name is one of it
  module _ (from end : ℕ) (below : from ≤ end) (is : h ≡ first from end (member names 2 n)) (l : h < end) where
    next_held : not (member names 2 n h) ≡ false
    next_held = let r : First from end (member names 2 n) h = rw (sym is) at (first_is from end (member names 2 n) below) in ap not (r.passes l)

    pub next_there : has_head (program ws s) (tables ws s) n h ≡ true
    next_there = head_there (member names 2 n h) refl next_held

    pub next_lost : (b : Bool) → b ≡ does_head_fit (program ws s) (tables ws s) n q h → b ≡ false → leaves_head (program ws s) (tables ws s) n q h ≡ false
    next_lost b k z = unfit_lost (member names 2 n h) b refl next_held k z

-- the arguments of a value that the constructor pattern at row q may match, and their subpatterns
pub first_row : (p : Program) (q x : ℕ) → x ≡ q + 1 → x ≡ subpattern p max_depth q 0
first_row p q x e = e ∙ subpattern_first p 3 q

-- what is known at argument i, whose subpattern stands at row r
pub record ArgumentAt (p : Program) (afters : List ℕ) (q i r : ℕ) : Type 0 where
  pub short : i < max_arity
  pub stands : Pattern p (max_depth - 1) r
  pub inside : r < length afters
  pub next : get_or afters r 0 ≡ subpattern p max_depth q (i + 1)

module _ {ws : List ℕ} {s : Sizes} (h : Ready ws s) {afters : List ℕ} (ends : Ends (program ws s) afters) {q : ℕ} (v : ℕ) (stands : Pattern (program ws s) max_depth q) (may : begins (program ws s) (tables ws s) q v ≡ true) (made : tag (program ws s) q ≡ 31) {k a : ℕ} (is-k : k ≡ num (program ws s) q) (is-a : a ≡ num (program ws s) k) where
  same : is_same_constructor (program ws s) q v ≡ true
  unfolding begins
  same = rw (begins, eq-eqb (tag (program ws s) q) 31 made) at may

  pub arity_short : a ≤ max_arity
  unfolding arity
  arity_short = omega (arith, ap (num (program ws s)) is-k, few_arguments (program ws s) (rows_fit h) (num (program ws s) q) (pattern_constructor (record { depth = max_depth; stands = stands }) made))

  pub value_low : v < max_rows
  value_low = (built_row h q v same).2

  module _ {i r : ℕ} (more : i < a) (row : r ≡ subpattern (program ws s) max_depth q i) where
    fits : i < arity (program ws s) (num (program ws s) q)
    unfolding arity
    fits = omega (arith, ap (num (program ws s)) is-k)

    tagged : eqb (tag (program ws s) q) 31 ≡ true
    tagged = eq-eqb _ 31 made

    pub argument_at : ArgumentAt (program ws s) afters q i r
    argument_at =
        let standing = subpattern_stands stands tagged i fits in
        let within = pattern_within standing in
        record {
          short = omega (arith, arity_short);
          stands = rw row standing;
          inside = omega (arith, ends.room);
          next = ap (λ x. get_or afters x 0) row ∙ subpattern_next ends stands tagged i fits;
        }

    pub argument_name : (n x : ℕ) → x ≡ v + 2 + i → n ≡ num (program ws s) x → (n ≡ argument (program ws s) v i) × (n < s.names)
    unfolding argument is_head_of arity program
    argument_name n x e f =
        let (two, alike, low) = built_row h q v same in
        let l = row_location (rows_fit h) (columns_whole h) v (rw two) in
        let z = f ∙ ap (num (program ws s)) e in
        let y = ap (num (program ws s)) alike in
        (z, omega (arith, build_names (program ws s) l two i (omega (arith, fits))))
