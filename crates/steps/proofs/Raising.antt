-- Request (ii): a limit raised by a sum. The test by raised limits decides as the rule on the highest counts does.
use Prim.Native.Nat.{ℕ, ◌+◌, ◌*◌, ◌^◌, ◌≤◌, ◌<◌}
use native.Mathlib.Omega.{arith}
use mathlib.Core.Path.{◌≡◌, refl, sym, ap, ◌∙◌}
use mathlib.Core.Bool.{Bool, true, false}
use lib.Dec.{leb, ltb, eqb}
use mir.Val.{bool_byte, bits, Fits}
use mir.Syntax.{Width}
use borrow.Author.Tests.{eqb-false, lt-ltb, le-ltb, ltb-true, ltb-false, lt-leb}
use Rattle.model.specs.Limits.{omega_limit}
use Rattle.model.specs.Markings.{fire}
use Rattle.model.specs.Ceilings.{allowed}
use Rattle.model.proofs.Logic.{test}
use Rattle.steps.specs.declared.Step.{Step}
use Rattle.steps.specs.Steps.{rule_of_step, more_if, raised, one_more_if, limit_from_sum, limit_after_step}
use Rattle.steps.proofs.Stepping.{fire_stages}

-- the truth as a number
truth_small : (b : Bool) → 1 * bool_byte b ≤ 1
truth_small true = omega arith
truth_small false = omega arith

-- It fits each width, whatever is tested; and its sum with a limit fits each that holds one more than every limit.
pub truth_fits : (w : Width) (b : Bool) → 1 < 2 ^ bits w → Fits w (1 * bool_byte b)
truth_fits w b h = record { fits = omega (arith, truth_small b) }

pub sum_fits : (w : Width) (b : Bool) (limit : ℕ) → limit < 65536 → 65536 < 2 ^ bits w → Fits w (limit + 1 * bool_byte b)
sum_fits w b limit h wide = record { fits = omega (arith, truth_small b) }

sum_raised : (b : Bool) (limit : ℕ) → limit + 1 * bool_byte b ≡ elim b [ true ↦ limit + 1 | false ↦ limit ]
sum_raised true limit = omega arith
sum_raised false limit = omega arith

pub raised_is : (limit : ℕ) → limit + 1 * bool_byte (ltb limit omega_limit) ≡ raised limit
unfolding raised
raised_is limit = sum_raised (ltb limit omega_limit) limit

-- by the test of the definition
by_test : (b c : Bool) (x y : ℕ) → b ≡ c → ◌≡◌ {A = ℕ} (elim b [ true ↦ x | false ↦ y ]) (elim c [ true ↦ x | false ↦ y ])
by_test b c x y e = ap (λ t. elim t [ true ↦ x | false ↦ y ]) e

-- one more below the mark, and the mark stays
raised_below : (limit : ℕ) → limit < omega_limit → raised limit ≡ limit + 1
unfolding raised
raised_below limit h = by_test (ltb limit omega_limit) true (limit + 1) limit (lt-ltb limit omega_limit h)

raised_mark : (limit : ℕ) → omega_limit ≤ limit → raised limit ≡ limit
unfolding raised
raised_mark limit h = by_test (ltb limit omega_limit) false (limit + 1) limit (le-ltb limit omega_limit h)

pub as_limit_below : (count : ℕ) → count < omega_limit → limit_from_sum count ≡ count
unfolding limit_from_sum
as_limit_below count h = by_test (ltb count omega_limit) true count omega_limit (lt-ltb count omega_limit h)

pub as_limit_past : (count : ℕ) → omega_limit ≤ count → limit_from_sum count ≡ omega_limit
unfolding limit_from_sum
as_limit_past count h = by_test (ltb count omega_limit) false count omega_limit (le-ltb count omega_limit h)

pub raised_small : (limit r : ℕ) → limit ≤ omega_limit → r ≡ raised limit → r ≤ omega_limit
raised_small limit r h e =
    test (ltb limit omega_limit)
    (λ t. let below : limit < omega_limit = ltb-true limit omega_limit t in omega (arith, raised_below limit below))
    (λ f. let past : omega_limit ≤ limit = ltb-false limit omega_limit f in omega (arith, raised_mark limit past))

pub raise_pass : (b : Bool) (limit : ℕ) → b ≡ true → raised limit ≡ one_more_if b limit
unfolding one_more_if
raise_pass b limit h = rw h

pub raise_fail : (b : Bool) (limit : ℕ) → b ≡ false → limit ≡ one_more_if b limit
unfolding one_more_if
raise_fail b limit h = rw h

-- raising a limit is one more of the count
raise_next : (count : ℕ) → raised (limit_from_sum count) ≡ limit_from_sum (count + 1)
raise_next count =
    test (ltb count omega_limit)
    (λ t. let below : count < omega_limit = ltb-true count omega_limit t in
    rw (as_limit_below count below, raised_below count below)
    (test (ltb (count + 1) omega_limit)
    (λ u. sym (as_limit_below (count + 1) (ltb-true (count + 1) omega_limit u)))
    (λ g. let past : omega_limit ≤ count + 1 = ltb-false (count + 1) omega_limit g in
    let mark : count + 1 ≡ omega_limit = omega arith in mark ∙ sym (as_limit_past (count + 1) past))))
    (λ f. let past : omega_limit ≤ count = ltb-false count omega_limit f in
    let next : omega_limit ≤ count + 1 = omega arith in
    rw (as_limit_past count past, as_limit_past (count + 1) next) (raised_mark omega_limit (omega arith)))

raise_count : (b : Bool) (count : ℕ) → one_more_if b (limit_from_sum count) ≡ limit_from_sum (more_if b count)
unfolding one_more_if more_if
raise_count true count = raise_next count
raise_count false count = refl

-- a count past every limit lies under unbounded alone
past_allowed : (m count : ℕ) → m ≤ omega_limit → omega_limit ≤ count → allowed m omega_limit ≡ allowed m count
unfolding allowed
past_allowed m count h past =
    test (eqb m omega_limit)
    (λ t. rw t refl)
    (λ f. let ne : m ≡ omega_limit → ⊥ = eqb-false m omega_limit f in
    rw (f, lt-leb omega_limit m (omega arith), lt-leb count m (omega arith)) refl)

limit_allowed : (m count : ℕ) → m ≤ omega_limit → allowed m (limit_from_sum count) ≡ allowed m count
limit_allowed m count h =
    test (ltb count omega_limit)
    (λ t. rw (as_limit_below count (ltb-true count omega_limit t)) refl)
    (λ f. let past : omega_limit ≤ count = ltb-false count omega_limit f in
    rw (as_limit_past count past) (past_allowed m count h past))

-- The test by stepped limits decides as the rule on the highest counts does.
pub stepped_decides : (σ : Step) (m y count : ℕ) → σ.kind ≤ 3 → m ≤ omega_limit → allowed m (limit_after_step count σ y) ≡ allowed m (fire (rule_of_step σ) (λ _. count) y)
unfolding limit_after_step
stepped_decides σ m y count small h =
    rw (raise_count (eqb y σ.to) _, raise_count _ _, fire_stages σ (λ _. count) y small) (limit_allowed m _ h)

-- a limit raised by one allows what one more of its highest count does
pub next_allowed : (m count r : ℕ) → m ≤ omega_limit → r ≡ raised (limit_from_sum count) → allowed m r ≡ allowed m (count + 1)
next_allowed m count r h e = ap (allowed m) (e ∙ raise_next count) ∙ limit_allowed m (count + 1) h
