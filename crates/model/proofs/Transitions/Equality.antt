-- Values that are equal: `equal` (specs/Values.antt) is `Equal`; and patterns that match and bind nothing.
use Prim.Native.Nat.{ℕ}
use mathlib.Core.Path.{◌≡◌, refl}
use mathlib.Core.Bool.{true}
use mathlib.Core.Logic.{◌↔◌, ◌⊎◌}
use mathlib.Core.Option.{some, some-injective, none-ne-some}
use lib.Dec.{eqb}
use borrow.Author.Tests.{eqb-true, eq-eqb}
use Rattle.model.specs.Rows.{Program, tag, num}
use Rattle.model.specs.Values.{Value, closure, built, address, Bindings, empty, bind, arguments_of, equal, equal_each, value_of}
use Rattle.model.specs.Matching.{equals_held, passes_over}
use Rattle.model.specs.Patterns.{Holds, Equal, one_process, one_constructor, EqualEach, no_arguments, one_argument}
use Rattle.model.proofs.Logic.{test, true_false, and_left, and_right, and_intro}
use Rattle.model.proofs.Reader.{by_option}
use Rattle.model.proofs.Exact.Tests.{eqb_iff, and_iff, or_iff}
use Rattle.model.proofs.Transitions.Names.{value_exactly}

-- a value with these arguments is one of the constructor
pub made_of : (k : ℕ) (v : Value) (inner : Bindings) → arguments_of k v ≡ some inner → (r : ℕ) × (v ≡ built r k inner)
unfolding arguments_of
made_of k (closure f held) inner h = absurd (none-ne-some inner h)
made_of k (built r k' vs) inner h =
    test (eqb k k')
    (λ e. (r, rw (eqb-true k k' e, some-injective vs inner (rw (e, arguments_of) at h))))
    (λ e. absurd (none-ne-some inner (rw (e, arguments_of) at h)))
made_of k (address i) inner h = absurd (none-ne-some inner h)

pub of_made : (k r : ℕ) (vs : Bindings) → arguments_of k (built r k vs) ≡ some vs
unfolding arguments_of
of_made k r vs = rw (eq-eqb k k refl, arguments_of)

mutual
  unfolding equal equal_each

  pub equal_has : (v w : Value) → equal v w ≡ true → Equal v w
  equal_has (closure f held) w h = true_false h refl
  equal_has (built r k vs) (closure f held) h = true_false h refl
  equal_has (built r k vs) (built s l ws) h =
      rw (eqb-true k l (and_left (eqb k l) (equal_each vs ws) h)) (one_constructor (each_has vs ws (and_right (eqb k l) (equal_each vs ws) h)))
  equal_has (built r k vs) (address j) h = true_false h refl
  equal_has (address i) (closure f held) h = true_false h refl
  equal_has (address i) (built s l ws) h = true_false h refl
  equal_has (address i) (address j) h = rw (eqb-true i j h) one_process

  each_has : (vs ws : Bindings) → equal_each vs ws ≡ true → EqualEach vs ws
  each_has empty empty h = no_arguments
  each_has empty (bind m w ws) h = true_false h refl
  each_has (bind n v vs) empty h = true_false h refl
  each_has (bind n v vs) (bind m w ws) h =
      one_argument (equal_has v w (and_left (equal v w) (equal_each vs ws) h)) (each_has vs ws (and_right (equal v w) (equal_each vs ws) h))

mutual
  unfolding equal equal_each

  pub equal_gives : {v w : Value} → Equal v w → equal v w ≡ true
  equal_gives (one_process {i = i}) = eq-eqb i i refl
  equal_gives (one_constructor {k = k} {vs = vs} {ws = ws} x) = and_intro (eqb k k) (equal_each vs ws) (eq-eqb k k refl) (each_gives x)

  each_gives : {vs ws : Bindings} → EqualEach vs ws → equal_each vs ws ≡ true
  each_gives no_arguments = refl
  each_gives (one_argument {v = v} {w = w} {vs = vs} {ws = ws} x xs) = and_intro (equal v w) (equal_each vs ws) (equal_gives x) (each_gives xs)

module _ (p : Program) (held : Bindings) where
  -- "a value equal to the one held"
  abbrev pub EqualsHeld : ℕ → Value → Type 0
  EqualsHeld n v = (w : Value) × Holds p held n w × Equal v w

  equals_held_iff : (n : ℕ) (v : Value) → (equals_held p held n v ≡ true) ↔ EqualsHeld n v
  unfolding equals_held
  equals_held_iff n v = (
    λ h. by_option (value_of p held n) (λ a. true_false (rw (a, equals_held) at h) refl)
        (λ w a. (w, (value_exactly p n held).has w a, equal_has v w (rw (a, equals_held) at h))),
    λ h. let (w, k, x) = h in rw ((value_exactly p n held).gives w k, equals_held) (equal_gives x),
  )

  -- a pattern that matches and binds nothing
  pub passes_over_iff : (q : ℕ) (v : Value) → (passes_over p held q v ≡ true) ↔ ((tag p q ≡ 32) ⊎ ((tag p q ≡ 33) × EqualsHeld (num p q) v))
  unfolding passes_over
  passes_over_iff q v =
      or_iff (eqb (tag p q) 32) _ (eqb_iff (tag p q) 32)
      (and_iff (eqb (tag p q) 33) (equals_held p held (num p q) v) (eqb_iff (tag p q) 33) (equals_held_iff (num p q) v))
