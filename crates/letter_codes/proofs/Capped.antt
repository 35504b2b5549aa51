-- The number of letters, capped at a limit, decides refusal 9.
use Prim.Native.Nat.{ℕ, ◌+◌, ◌≤◌, ◌<◌}
use native.Mathlib.Decide.{dec_lt}
use native.Mathlib.Omega.{arith}
use mathlib.Core.Path.{◌≡◌, refl, sym, ◌∙◌}
use mathlib.Core.List.{List}
use borrow.Author.Tests.{le-leb, lt-leb}
use Rattle.std.proofs.Common.{Ok, Err}
use Rattle.model.specs.declared.Sizes.{Sizes}
use Rattle.model.specs.declared.Verdict.TheVariants.{Counters}
use Rattle.model.specs.Limits.{present, max_counters}
use Rattle.model.specs.Message.{tables_offset}
use Rattle.model.specs.Words.{columns}
use Rattle.model.specs.Rows.{Program}
use Rattle.model.specs.Tables.{Tables, tables, entries}
use Rattle.model.specs.Counters.{letter_count_of, counter_count, counter_check_of}
use Rattle.model.specs.Verdict.{unless}
use Rattle.model.specs.Verify.{outcome}
use Rattle.model.proofs.Numbering.Within.{within_exactly}
use Rattle.letter_codes.specs.Codes.{capped}

pub capped_few : (most n : ℕ) → n ≤ most → capped most n ≡ n
unfolding capped
capped_few most n l = rw (le-leb n most l, capped)

pub capped_over : (most n : ℕ) → most < n → capped most n ≡ most + 1
unfolding capped
capped_over most n l = rw (lt-leb n most l, capped)

pub capped_most : (most n x : ℕ) → x ≡ capped most n → x ≤ most + 1
capped_most most n x e = elim (dec_lt most n) [
  | yes l ↦ omega (arith, capped_over most n l)
  | no l ↦ omega (arith, capped_few most n (omega arith))
]

-- what is at most the most is the number itself
pub capped_exact : (most n x : ℕ) → x ≡ capped most n → x ≤ most → x ≡ n
capped_exact most n x e l = elim (dec_lt most n) [
  | yes z ↦ absurd (omega (arith, capped_over most n z))
  | no z ↦ omega (arith, capped_few most n (omega arith))
]

-- a number capped at fewer, which it does not pass, is the number capped at more
pub capped_again : (most more n x : ℕ) → x ≡ capped most n → x ≤ most → most ≤ more → x ≡ capped more n
capped_again most more n x e l m = let z = capped_exact most n x e l in z ∙ sym (capped_few more n (omega arith))

pub states_told : (ws : List ℕ) (s : Sizes) → (tables ws s).states.size ≡ s.states
unfolding tables entries columns
states_told ws s = refl

-- the answer of refusal 9
module _ (s : Sizes) (p : Program) (t : Tables) (n : ℕ) (states : t.states.size ≡ s.states) (e : n ≡ capped max_counters (letter_count_of p t)) where
  pub counters_safe : s.states + n ≤ max_counters → Ok tt ≡ outcome (counter_check_of present s p t)
  unfolding counter_check_of unless outcome counter_count
  counters_safe l =
      let z = capped_exact max_counters (letter_count_of p t) n e (omega arith) in
      rw (within_exactly p t max_counters, le-leb (t.states.size + letter_count_of p t) max_counters (omega arith))

  pub counters_many : (at : ℕ) → max_counters < s.states + n → at ≡ tables_offset s → Err (Counters (at + 2)) ≡ outcome (counter_check_of present s p t)
  unfolding counter_check_of unless outcome counter_count
  counters_many at l f =
      rw (within_exactly p t max_counters, lt-leb (t.states.size + letter_count_of p t) max_counters over, f)
    where
      over : max_counters < t.states.size + letter_count_of p t
      over = elim (dec_lt max_counters (letter_count_of p t)) [
        | yes z ↦ omega arith
        | no z ↦ omega (arith, capped_few max_counters (letter_count_of p t) (omega arith))
      ]
