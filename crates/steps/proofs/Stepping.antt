-- A step of the counts, one counter at a time: what the code computes is what the rule does.
use Prim.Native.Nat.{ℕ, zero, suc, ◌+◌, ◌-◌, ◌≤◌}
use native.Mathlib.Omega.{arith}
use mathlib.Core.Path.{◌≡◌, refl, sym, ◌∙◌, ap}
use mathlib.Core.Bool.{Bool, true, false, not, ◌&&◌, ◌||◌}
use mathlib.Core.Logic.{⊎_elim}
use lib.Dec.{leb, eqb}
use borrow.Author.Tests.{eq-eqb, ne_eqb, eqb-true, le-leb, lt-leb}
use Rattle.model.specs.Limits.{omega_limit}
use Rattle.model.specs.Rules.{rule}
use Rattle.model.specs.Markings.{Marking, readable, usable, taking, adding, effect_taken, effect_added, fire}
use Rattle.model.specs.Ceilings.{CeilingLimits, highest}
use Rattle.model.proofs.Logic.{true_false, test, or_cases, and_none}
use Rattle.steps.specs.declared.Step.{Step}
use Rattle.steps.specs.Steps.{effect_of, rule_of_step, does_take_other, does_add_other, effect_kind_of, one_less_if, more_if}

pub less_pass : (b : Bool) (count : ℕ) → b ≡ true → count - 1 ≡ one_less_if b count
unfolding one_less_if
less_pass b count h = rw h

pub less_fail : (b : Bool) (count : ℕ) → b ≡ false → count ≡ one_less_if b count
unfolding one_less_if
less_fail b count h = rw h

pub more_pass : (b : Bool) (count : ℕ) → b ≡ true → count + 1 ≡ more_if b count
unfolding more_if
more_pass b count h = rw h

pub more_fail : (b : Bool) (count : ℕ) → b ≡ false → count ≡ more_if b count
unfolding more_if
more_fail b count h = rw h

-- by how much
less_if_range : (b : Bool) (count : ℕ) → (one_less_if b count ≤ count) × (count ≤ one_less_if b count + 1)
unfolding one_less_if
less_if_range true count = (omega arith, omega arith)
less_if_range false count = (omega arith, omega arith)

more_if_range : (b : Bool) (count : ℕ) → (count ≤ more_if b count) × (more_if b count ≤ count + 1)
unfolding more_if
more_if_range true count = (omega arith, omega arith)
more_if_range false count = (omega arith, omega arith)

pub less_small : (b : Bool) (count r : ℕ) → r ≡ one_less_if b count → r ≤ count
less_small b count r e = omega (arith, less_if_range b count)

pub more_small : (b : Bool) (count r : ℕ) → r ≡ more_if b count → r ≤ count + 1
more_small b count r e = omega (arith, more_if_range b count)

taking_is : (x : ℕ) (m : Marking) (y : ℕ) → taking x m y ≡ one_less_if (eqb y x) (m y)
unfolding taking one_less_if
taking_is x m y = test (eqb y x) (λ e. rw (e, taking)) (λ e. rw (e, taking))

adding_is : (x : ℕ) (m : Marking) (y : ℕ) → adding x m y ≡ more_if (eqb y x) (m y)
unfolding adding more_if
adding_is x m y = test (eqb y x) (λ e. rw (e, adding)) (λ e. rw (e, adding))

-- by the kind of step
stages : (from to kind other : ℕ) (m : Marking) (y : ℕ) → kind ≤ 3 → fire (rule from to (effect_of kind other)) m y ≡ more_if (leb 2 kind && eqb y other) (more_if (eqb y to) (one_less_if (eqb kind 1 && eqb y other) (one_less_if (eqb y from) (m y))))
unfolding fire effect_of effect_taken effect_added one_less_if more_if
stages from to zero other m y h = rw (adding_is to (taking from m) y, taking_is from m y)
stages from to (suc zero) other m y h = rw (adding_is to (taking other (taking from m)) y, taking_is other (taking from m) y, taking_is from m y)
stages from to (suc (suc zero)) other m y h = rw (adding_is other (adding to (taking from m)) y, adding_is to (taking from m) y, taking_is from m y)
stages from to (suc (suc (suc zero))) other m y h = rw (adding_is other (adding to (taking from m)) y, adding_is to (taking from m) y, taking_is from m y)
stages from to (suc (suc (suc (suc kind)))) other m y h = absurd (omega arith)

-- a counter after a step
pub fire_stages : (σ : Step) (m : Marking) (y : ℕ) → σ.kind ≤ 3 → fire (rule_of_step σ) m y ≡ more_if (does_add_other σ y) (more_if (eqb y σ.to) (one_less_if (does_take_other σ y) (one_less_if (eqb y σ.from) (m y))))
unfolding rule_of_step does_take_other does_add_other
fire_stages σ m y h = stages σ.from σ.to σ.kind σ.other m y h

-- it depends on that counter alone
pub fire_alone : (σ : Step) (m m' : Marking) (y : ℕ) → σ.kind ≤ 3 → m y ≡ m' y → fire (rule_of_step σ) m y ≡ fire (rule_of_step σ) m' y
fire_alone σ m m' y h e = fire_stages σ m y h ∙ rw e (sym (fire_stages σ m' y h))

-- a counter that the step does not name stays, and one that it takes nothing from does not fall
pub fire_untouched : (σ : Step) (m : Marking) (y : ℕ) → σ.kind ≤ 3 → (y ≡ σ.from → ⊥) → (y ≡ σ.to → ⊥) → (y ≡ σ.other → ⊥) → fire (rule_of_step σ) m y ≡ m y
unfolding does_take_other does_add_other one_less_if more_if
fire_untouched σ m y h a b c =
    fire_stages σ m y h ∙
    rw (ne_eqb y σ.from a, ne_eqb y σ.to b, ne_eqb y σ.other c, and_none (leb 2 σ.kind), and_none (eqb σ.kind 1))

nothing_taken : (σ : Step) (count y : ℕ) → (y ≡ σ.from → ⊥) → (y ≡ σ.other → ⊥) → one_less_if (does_take_other σ y) (one_less_if (eqb y σ.from) count) ≡ count
unfolding does_take_other one_less_if
nothing_taken σ count y a c = rw (ne_eqb y σ.from a, ne_eqb y σ.other c, and_none (eqb σ.kind 1))

pub fire_kept : (σ : Step) (m : Marking) (y : ℕ) → σ.kind ≤ 3 → (y ≡ σ.from → ⊥) → (y ≡ σ.other → ⊥) → m y ≤ fire (rule_of_step σ) m y
fire_kept σ m y h a c =
    let left : ℕ = one_less_if (does_take_other σ y) (one_less_if (eqb y σ.from) (m y)) in
    let same : left ≡ m y = nothing_taken σ (m y) y a c in
    let (to, top) = more_if_range (eqb y σ.to) left in
    let (other, top') = more_if_range (does_add_other σ y) (more_if (eqb y σ.to) left) in
    omega (arith, fire_stages σ m y h)

-- where a step can be used, by the code's values
readable_free : (kind other : ℕ) (m : Marking) → kind ≤ 3 → (kind ≡ 1 → ⊥) → readable (effect_of kind other) m ≡ true
unfolding readable effect_of
readable_free zero other m h f = refl
readable_free (suc zero) other m h f = absurd (f refl)
readable_free (suc (suc zero)) other m h f = refl
readable_free (suc (suc (suc zero))) other m h f = refl
readable_free (suc (suc (suc (suc kind)))) other m h f = absurd (omega arith)

module _ (σ : Step) (m : Marking) (h : ℕ) (value : h ≡ m σ.from) where
  pub usable_none : h ≡ 0 → false ≡ usable (rule_of_step σ) m
  unfolding usable rule_of_step
  usable_none z = rw (lt-leb 1 (m σ.from) (omega arith))

  pub usable_free : (h ≡ 0 → ⊥) → (σ.kind ≡ 1 → ⊥) → σ.kind ≤ 3 → true ≡ usable (rule_of_step σ) m
  unfolding usable rule_of_step
  usable_free z f small = rw (le-leb 1 (m σ.from) (omega arith), readable_free σ.kind σ.other m small f)

  pub usable_reads : (l : ℕ) → (h ≡ 0 → ⊥) → σ.kind ≡ 1 → l ≡ m σ.other → leb 1 l ≡ usable (rule_of_step σ) m
  unfolding usable rule_of_step readable effect_of
  usable_reads l z e v = rw (le-leb 1 (m σ.from) (omega arith), e, v)

-- a counter from which not both parts of the step take loses one at most
pub fire_less : (σ : Step) (m : Marking) (y : ℕ) → σ.kind ≤ 3 → (y ≡ σ.from → does_take_other σ y ≡ false) → m y - 1 ≤ fire (rule_of_step σ) m y
fire_less σ m y h once =
    let first : ℕ = one_less_if (eqb y σ.from) (m y) in
    let left : ℕ = one_less_if (does_take_other σ y) first in
    let (to, top) = more_if_range (eqb y σ.to) left in
    let (other, top') = more_if_range (does_add_other σ y) (more_if (eqb y σ.to) left) in
    let lost : m y - 1 ≤ left =
    test (eqb y σ.from)
    (λ e. let z = less_fail (does_take_other σ y) first (once (eqb-true y σ.from e)) in let w = less_pass (eqb y σ.from) (m y) e in omega arith)
    (λ e. let z = less_if_range (does_take_other σ y) first in let w = less_fail (eqb y σ.from) (m y) e in omega arith) in
    omega (arith, fire_stages σ m y h)

-- a counter from which the step does not take does not fall
pub fire_held : (σ : Step) (m : Marking) (y : ℕ) → σ.kind ≤ 3 → (y ≡ σ.from → ⊥) → does_take_other σ y ≡ false → m y ≤ fire (rule_of_step σ) m y
fire_held σ m y h a b =
    let first : ℕ = one_less_if (eqb y σ.from) (m y) in
    let left : ℕ = one_less_if (does_take_other σ y) first in
    let u = less_fail (eqb y σ.from) (m y) (ne_eqb y σ.from a) in
    let w = less_fail (does_take_other σ y) first b in
    let (to, top) = more_if_range (eqb y σ.to) left in
    let (other, top') = more_if_range (does_add_other σ y) (more_if (eqb y σ.to) left) in
    omega (arith, fire_stages σ m y h)

-- only a step that reads takes from its other counter
pub takes_none : (σ : Step) (y : ℕ) → (σ.kind ≡ 1 → ⊥) → does_take_other σ y ≡ false
unfolding does_take_other
takes_none σ y h = rw (ne_eqb σ.kind 1 h)

pub takes_apart : (σ : Step) (y : ℕ) → (y ≡ σ.other → ⊥) → does_take_other σ y ≡ false
unfolding does_take_other
takes_apart σ y h = rw (ne_eqb y σ.other h) (and_none (eqb σ.kind 1))

pub takes_it : (σ : Step) (y : ℕ) → σ.kind ≡ 1 → y ≡ σ.other → does_take_other σ y ≡ true
unfolding does_take_other
takes_it σ y h e = rw (h, e) (eq-eqb σ.other σ.other refl)

-- a counter to which the step adds, and from which it does not take, has one more
pub fire_raised : (σ : Step) (m : Marking) (y : ℕ) → σ.kind ≤ 3 → eqb y σ.from ≡ false → does_take_other σ y ≡ false → (eqb y σ.to || does_add_other σ y) ≡ true → m y + 1 ≤ fire (rule_of_step σ) m y
fire_raised σ m y h a b d =
    let first : ℕ = one_less_if (eqb y σ.from) (m y) in
    let left : ℕ = one_less_if (does_take_other σ y) first in
    let u = less_fail (eqb y σ.from) (m y) a in
    let w = less_fail (does_take_other σ y) first b in
    let moved : ℕ = more_if (eqb y σ.to) left in
    let (other, top') = more_if_range (does_add_other σ y) moved in
    let (to, top) = more_if_range (eqb y σ.to) left in
    ⊎_elim
    (λ e. let z = more_pass (eqb y σ.to) left e in omega (arith, fire_stages σ m y h))
    (λ e. let z = more_pass (does_add_other σ y) moved e in omega (arith, fire_stages σ m y h)) (or_cases (eqb y σ.to) (does_add_other σ y) d)

-- a counter to which the step does not add has no more than before, and one less where it is the step's own
pub fire_fewer : (σ : Step) (m : Marking) (y : ℕ) → σ.kind ≤ 3 → eqb y σ.to ≡ false → does_add_other σ y ≡ false → fire (rule_of_step σ) m y ≤ one_less_if (eqb y σ.from) (m y)
fire_fewer σ m y h a b =
    let first : ℕ = one_less_if (eqb y σ.from) (m y) in
    let left : ℕ = one_less_if (does_take_other σ y) first in
    let z = less_if_range (does_take_other σ y) first in
    let u = more_fail (eqb y σ.to) left a in
    let w = more_fail (does_add_other σ y) (more_if (eqb y σ.to) left) b in
    omega (arith, fire_stages σ m y h)

-- the kind by the tag
pub effect_send : (tag : ℕ) → tag ≡ 5 → 2 ≡ effect_kind_of tag
unfolding effect_kind_of
effect_send tag e = sym (ap effect_kind_of e)

pub effect_spawn : (tag : ℕ) → tag ≡ 6 → 3 ≡ effect_kind_of tag
unfolding effect_kind_of
effect_spawn tag e = sym (ap effect_kind_of e)

pub effect_receive : (tag : ℕ) → tag ≡ 9 → 1 ≡ effect_kind_of tag
unfolding effect_kind_of
effect_receive tag e = sym (ap effect_kind_of e)

pub effect_quiet : (tag : ℕ) → (tag ≡ 5 → ⊥) → (tag ≡ 6 → ⊥) → (tag ≡ 9 → ⊥) → 0 ≡ effect_kind_of tag
unfolding effect_kind_of
effect_quiet tag a b d = rw (ne_eqb tag 5 a, ne_eqb tag 6 b, ne_eqb tag 9 d, effect_kind_of)
