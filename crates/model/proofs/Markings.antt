-- A counter before and after a rule (specs/Markings.antt).
use Prim.Native.Nat.{ℕ, ◌+◌, ◌-◌}
use native.Mathlib.Omega.{arith}
use mathlib.Core.Path.{◌≡◌}
use lib.Dec.{eqb}
use Rattle.model.specs.Letters.{one_if}
use Rattle.model.specs.Rules.{Effect, quiet, reads, puts, starts, rule}
use Rattle.model.specs.Markings.{Marking, taking, adding, effect_taken, effect_added, fire}
use Rattle.model.proofs.Logic.{test}

-- what an effect takes from a counter, and what it adds
unfoldable pub effect_less : Effect → ℕ → ℕ
effect_less quiet y = 0
effect_less (reads x) y = one_if (eqb y x)
effect_less (puts x) y = 0
effect_less (starts x) y = 0

unfoldable pub effect_more : Effect → ℕ → ℕ
effect_more quiet y = 0
effect_more (reads x) y = 0
effect_more (puts x) y = one_if (eqb y x)
effect_more (starts x) y = one_if (eqb y x)

taking_one : (x : ℕ) (m : Marking) (y : ℕ) → taking x m y ≡ m y - one_if (eqb y x)
unfolding taking one_if
taking_one x m y = test (eqb y x) (λ e. rw (e, taking)) (λ e. rw (e, taking) (omega arith))

adding_one : (x : ℕ) (m : Marking) (y : ℕ) → adding x m y ≡ m y + one_if (eqb y x)
unfolding adding one_if
adding_one x m y = test (eqb y x) (λ e. rw (e, adding)) (λ e. rw (e, adding) (omega arith))

moving_one : (a b : ℕ) (m : Marking) (y : ℕ) → adding b (taking a m) y ≡ m y - one_if (eqb y a) + one_if (eqb y b)
moving_one a b m y = omega (arith, adding_one b (taking a m) y, taking_one a m y)

-- a counter after a rule
pub fire_at : (a b : ℕ) (e : Effect) (m : Marking) (y : ℕ) → fire (rule a b e) m y ≡ m y - one_if (eqb y a) - effect_less e y + one_if (eqb y b) + effect_more e y
unfolding fire effect_taken effect_added effect_less effect_more
fire_at a b quiet m y = omega (arith, moving_one a b m y)
fire_at a b (reads x) m y = omega (arith, moving_one x b (taking a m) y, taking_one a m y)
fire_at a b (puts x) m y = omega (arith, adding_one x (adding b (taking a m)) y, moving_one a b m y)
fire_at a b (starts x) m y = omega (arith, adding_one x (adding b (taking a m)) y, moving_one a b m y)
