-- The codes of patterns, level by level.
use Prim.Native.Nat.{ℕ, zero, suc, ◌+◌, ◌≤◌, ◌<◌, max}
use native.Mathlib.Decide.{dec_lt}
use native.Mathlib.Omega.{arith}
use mathlib.Core.Path.{◌≡◌, refl, sym, ◌∙◌}
use mathlib.Core.Bool.{Bool, true, false, not, ◌&&◌}
use lib.Dec.{eqb}
use borrow.Author.Tests.{ne_eqb}
use Rattle.model.specs.Index.{implies, all}
use Rattle.model.specs.Rows.{Program, tag, num, arity}
use Rattle.model.specs.Tables.{Tables, each, some_of}
use Rattle.model.specs.Closed.{subpattern, argument, is_same_constructor, may_match, names_hold}
use Rattle.model.proofs.Index.{all_end, all_hit, all_miss}
use Rattle.matching.specs.Patterns.{code, pattern_code, values_code}

-- which test a code tells
pub code_zero : (m h : Bool) → code m h ≡ 0 → m ≡ false
unfolding code
code_zero true true e = absurd (omega arith)
code_zero true false e = absurd (omega arith)
code_zero false h e = refl

pub code_one : (m h : Bool) → code m h ≡ 1 → (m ≡ true) × (h ≡ true)
unfolding code
code_one true true e = (refl, refl)
code_one true false e = absurd (omega arith)
code_one false h e = absurd (omega arith)

pub code_two : (m h : Bool) → code m h ≡ 2 → (m ≡ true) × (h ≡ false)
unfolding code
code_two true true e = absurd (omega arith)
code_two true false e = (refl, refl)
code_two false h e = absurd (omega arith)

-- a code that is not 0, and one that is 1
pub code_some : (m h : Bool) → not (eqb (code m h) 0) ≡ m
unfolding code
code_some true true = refl
code_some true false = refl
code_some false h = refl

pub code_held : (m h : Bool) → eqb (code m h) 1 ≡ (m && h)
unfolding code
code_held true true = refl
code_held true false = refl
code_held false h = refl

pub code_most : (m h : Bool) → code m h ≤ 2
unfolding code
code_most true true = omega arith
code_most true false = omega arith
code_most false h = omega arith

-- a code 0, 1 or 2
pub by_code : {A : Type 0} (c : ℕ) → c ≤ 2 → (c ≡ 0 → A) → (c ≡ 1 → A) → (c ≡ 2 → A) → A
by_code zero h f g k = f refl
by_code (suc zero) h f g k = g refl
by_code (suc (suc zero)) h f g k = k refl
by_code (suc (suc (suc c))) h f g k = absurd (omega arith)

-- A constructor pattern: its arguments one after the other. `may` and `held` are the tests of each argument, `worst` the code so far.

module _ (a : ℕ) (may held : ℕ → Bool) where
  -- the code of the arguments from i on, with those before
  unfoldable pub rest_code : ℕ → ℕ → ℕ
  rest_code worst i = code (all i a may) (eqb worst 1 && all i a held)

  pub rest_begin : code (all 0 a may) (all 0 a held) ≡ rest_code 1 0
  unfolding rest_code
  rest_begin = refl

  pub rest_end : (worst i : ℕ) → a ≤ i → 1 ≤ worst → worst ≤ 2 → worst ≡ rest_code worst i
  unfolding rest_code code
  rest_end worst i h lo hi =
      by_code worst hi (λ e. absurd (omega arith))
      (λ e. rw (all_end i a may h, all_end i a held h, e))
      (λ e. rw (all_end i a may h, e))

  pub rest_none : (worst i c : ℕ) → i < a → c ≡ code (may i) (held i) → c ≡ 0 → 0 ≡ rest_code worst i
  unfolding rest_code code
  rest_none worst i c h e z = rw (all_miss i a may h (code_zero (may i) (held i) (sym e ∙ z)))

  -- one argument more that may match: the worse of the codes
  rest_same : (worst i c : ℕ) → i < a → c ≡ code (may i) (held i) → (c ≡ 0 → ⊥) → 1 ≤ worst → c ≤ worst → rest_code worst i ≡ rest_code worst (i + 1)
  unfolding rest_code
  rest_same worst i c h e nz lo le =
      by_code c (let z = code_most (may i) (held i) in omega arith) (λ z. absurd (nz z))
      (λ z. let (m, k) = code_one (may i) (held i) (sym e ∙ z) in rw (all_hit i a may h m, all_hit i a held h k))
      (λ z. let (m, k) = code_two (may i) (held i) (sym e ∙ z) in
      rw (all_hit i a may h m, ne_eqb worst 1 (λ y. omega arith)))

  rest_worse : (worst i c : ℕ) → i < a → c ≡ code (may i) (held i) → 1 ≤ worst → worst < c → rest_code worst i ≡ rest_code c (i + 1)
  unfolding rest_code
  rest_worse worst i c h e lo lt =
      let top = code_most (may i) (held i) in
      let one : worst ≡ 1 = omega arith in
      let two : c ≡ 2 = omega arith in
      let (m, k) = code_two (may i) (held i) (sym e ∙ two) in
      rw (all_hit i a may h m, all_miss i a held h k, one, two)

  pub rest_more : (worst i c : ℕ) → i < a → c ≡ code (may i) (held i) → (c ≡ 0 → ⊥) → 1 ≤ worst → rest_code worst i ≡ rest_code (max worst c) (i + 1)
  rest_more worst i c h e nz lo = elim (dec_lt worst c) [
    | yes lt ↦ let z : max worst c ≡ c = omega arith in rw z (rest_worse worst i c h e lo lt)
    | no le ↦ let z : max worst c ≡ worst = omega arith in rw z (rest_same worst i c h e nz lo (omega arith))
  ]

-- The codes of specs/Patterns.antt by these.

module _ (p : Program) (t : Tables) where
  -- whether argument i of v may match the subpattern i, and whether its names then hold what they are to
  abbrev pub may_at : ℕ → ℕ → ℕ → ℕ → Bool
  may_at d q v i = some_of t.flow (argument p v i) (may_match p t d (subpattern p (suc d) q i))

  abbrev pub held_at : ℕ → ℕ → ℕ → ℕ → Bool
  held_at d q v i =
      each t.flow (argument p v i)
      (λ w. implies (may_match p t d (subpattern p (suc d) q i) w) (names_hold p t d (subpattern p (suc d) q i) w))

  pub argument_code : (d q v i : ℕ) → values_code p t t.flow (argument p v i) d (subpattern p (suc d) q i) ≡ code (may_at d q v i) (held_at d q v i)
  unfolding values_code
  argument_code d q v i = refl

  module _ (d q v : ℕ) where
    -- a constructor pattern and a value of that constructor; of another; the other patterns
    pub made_code : eqb (tag p q) 31 ≡ true → is_same_constructor p q v ≡ true → pattern_code p t (suc d) q v ≡ code (all 0 (arity p (num p q)) (may_at d q v)) (all 0 (arity p (num p q)) (held_at d q v))
    unfolding pattern_code may_match names_hold
    made_code e f = rw (e, may_match, names_hold) (rw f)

    pub unmade_code : eqb (tag p q) 31 ≡ true → is_same_constructor p q v ≡ false → 0 ≡ pattern_code p t (suc d) q v
    unfolding pattern_code may_match code
    unmade_code e f = rw (e, may_match) (rw f)
