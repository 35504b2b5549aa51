-- The lightest counter of a range: found counter by counter, and the same as the model's.
use Prim.Native.Nat.{ℕ, ◌+◌, ◌≤◌, ◌<◌}
use native.Mathlib.Decide.{ℕ_discrete, dec_lt}
use native.Mathlib.Omega.{arith}
use mathlib.Core.Path.{◌≡◌, ◌∙◌}
use mathlib.Core.Bool.{Bool, true, false, ◌&&◌}
use mathlib.Core.Logic.{◌⊎◌, ⊎_elim}
use lib.Dec.{leb}
use borrow.Author.Tests.{leb-true, le-leb}
use Rattle.model.specs.Index.{implies, all}
use Rattle.model.specs.Rows.{Program}
use Rattle.model.specs.Tables.{Tables}
use Rattle.model.specs.Bads.{Subject}
use Rattle.model.specs.Counters.{counter_count, counts}
use Rattle.model.specs.Weights.{Line, lightest}
use Rattle.model.proofs.Logic.{test, true_false, and_left, and_right, and_intro, implies_elim, implies_intro}
use Rattle.model.proofs.Index.{all_elim, all_intro, first_unique}
use Rattle.bads_rows.specs.Items.{Range}
use Rattle.weights_least.specs.Least.{LightestIn}

module _ (w : Line) (from : ℕ) where
  -- of one counter
  pub lightest_one : LightestIn w from (from + 1) from
  lightest_one =
      record {
        above = omega arith;
        below = omega arith;
        least = λ x lo hi. let e : x ≡ from = omega arith in rw e (omega arith);
        earliest = λ x lo hi. absurd (omega arith);
      }

  -- one counter more
  module _ (x y here least : ℕ) (so_far : LightestIn w from x y) (here-is : here ≡ w x) (least-is : least ≡ w y) where
    lighter : here < least → LightestIn w from (x + 1) x
    lighter h =
        record {
          above = omega (arith, so_far.above, so_far.below);
          below = omega arith;
          least = λ z lo hi. elim (ℕ_discrete z x) [
            | yes e ↦ rw e (omega arith)
            | no e ↦ omega (arith, so_far.least z lo (omega arith))
          ];
          earliest = λ z lo hi. omega (arith, so_far.least z lo hi);
        }

    no_lighter : least ≤ here → LightestIn w from (x + 1) y
    no_lighter h =
        record {
          above = so_far.above;
          below = omega (arith, so_far.below);
          least = λ z lo hi. elim (ℕ_discrete z x) [
            | yes e ↦ rw e (omega arith)
            | no e ↦ so_far.least z lo (omega arith)
          ];
          earliest = so_far.earliest;
        }

    -- whichever it is
    pub lightest_next : (y' least' : ℕ) → ((here < least) × (y' ≡ x) × (least' ≡ here)) ⊎ ((least ≤ here) × (y' ≡ y) × (least' ≡ least)) → LightestIn w from (x + 1) y' × (least' ≡ w y')
    lightest_next y' least' came =
        ⊎_elim
        (λ c. (rw c.1 (lighter c.0), rw c.1 (c.2 ∙ here-is)))
        (λ c. (rw c.1 (no_lighter c.0), rw c.1 (c.2 ∙ least-is))) came

-- a counter that an item counts lies in its range
pub in_range : (p : Program) (t : Tables) (k : Subject) (from to x : ℕ) → Range p t k from to → x < counter_count p t → counts p t k x ≡ true → (from ≤ x) × (x < to)
in_range p t k from to x range low h = elim (dec_lt x from) [
  | yes b ↦ true_false h (range.before x b)
  | no b ↦ elim (dec_lt x to) [
    | yes u ↦ (omega arith, u)
    | no u ↦ true_false h (range.behind x (omega arith) low)
  ]
]

-- the model's, by weights that are the same over the range
module _ (p : Program) (t : Tables) (k : Subject) (from to : ℕ) (range : Range p t k from to) (w w' : Line) (same : (x : ℕ) → from ≤ x → x < to → w x ≡ w' x) (y : ℕ) (light : LightestIn w from to y) where
  abbrev n : ℕ
  n = counter_count p t

  abbrev lowest : ℕ → Bool
  lowest x = all 0 n (λ z. implies (counts p t k z) (leb (w' x) (w' z)))

  abbrev good : ℕ → Bool
  good x = counts p t k x && lowest x

  at_y : w y ≡ w' y
  at_y = same y light.above light.below

  passes : good y ≡ true
  passes =
      and_intro (counts p t k y) (lowest y) (range.within y light.above light.below)
      (all_intro 0 n (λ z. implies (counts p t k z) (leb (w' y) (w' z)))
      (λ z lo hi. implies_intro (counts p t k z) (leb (w' y) (w' z))
      (λ c. let (a, b) = in_range p t k from to z range hi c in
      le-leb (w' y) (w' z) (omega (arith, light.least z a b, same z a b, at_y)))))

  fails : (x : ℕ) → x < y → good x ≡ false
  fails x l =
      test (good x)
      (λ e. let u = light.below in
      let v = range.upto in
      let c = and_left (counts p t k x) (lowest x) e in
      let (a, b) = in_range p t k from to x range (omega arith) c in
      let less = leb-true (w' x) (w' y) (implies_elim (counts p t k y) (leb (w' x) (w' y)) (all_elim 0 n y (λ z. implies (counts p t k z) (leb (w' x) (w' z))) (and_right (counts p t k x) (lowest x) e) (omega arith) (omega arith)) (range.within y light.above u)) in
      absurd (omega (arith, less, light.earliest x a l, same x a b, at_y)))
      (λ e. e)

  pub lightest_is : lightest p t w' k ≡ y
  unfolding lightest
  lightest_is =
      let u = light.below in
      let v = range.upto in
      first_unique 0 n y good (omega arith) (record {
        from = omega arith;
        upto = omega arith;
        passes = λ l. passes;
        before = λ x lo hi. fails x hi;
      })
