-- Function values and addresses: `function_of` and `process_of` (specs/Run.antt) said outright.
use Prim.Native.Nat.{ℕ, ◌+◌}
use mathlib.Core.Logic.{inl, inr, ⊎_elim}
use mathlib.Core.Path.{◌≡◌, refl, ap, subst}
use mathlib.Core.Bool.{true, ◌||◌}
use mathlib.Core.Option.{some, some-injective, none-ne-some}
use lib.Dec.{eqb}
use borrow.Author.Tests.{eqb-true, eq-eqb}
use Rattle.model.specs.Rows.{Program, tag, num}
use Rattle.model.specs.Heads.{is_function, takes}
use Rattle.model.specs.Values.{Value, closure, built, address, process_of}
use Rattle.model.specs.Run.{Function, function_of}
use Rattle.model.specs.Transitions.{Takes}
use Rattle.model.proofs.Logic.{test, and_left, and_right, and_intro, or_cases, or_left, or_right}
use Rattle.model.proofs.Transitions.Exactly.{Exactly}

-- only a function that takes so many arguments can be called with them
pub function_of_some : (p : Program) (n : ℕ) (v : Value) (f : Function) → function_of p n v ≡ some f → (v ≡ closure f.row f.held) × (takes p f.row n ≡ true)
unfolding function_of
function_of_some p n (closure g held) f h =
    test (takes p g n)
    (λ e. let z = some-injective (record { row = g; held = held }) f (rw (e, function_of) at h) in
    subst (λ (x : Function). (closure g held ≡ closure x.row x.held) × (takes p x.row n ≡ true)) z (refl, e))
    (λ e. absurd (none-ne-some f (rw (e, function_of) at h)))
function_of_some p n (built r k vs) f h = absurd (none-ne-some f h)
function_of_some p n (address i) f h = absurd (none-ne-some f h)

module _ (p : Program) (n : ℕ) where
  takes_has : (f : ℕ) → takes p f n ≡ true → Takes p n f
  unfolding takes is_function
  takes_has f t = (
    ⊎_elim (λ e. inl (eqb-true (tag p f) 3 e)) (λ e. inr (eqb-true (tag p f) 11 e))
        (or_cases (eqb (tag p f) 3) (eqb (tag p f) 11) (and_left (eqb (tag p f) 3 || eqb (tag p f) 11) (eqb (num p (f + 1)) n) t)),
    eqb-true (num p (f + 1)) n (and_right (eqb (tag p f) 3 || eqb (tag p f) 11) (eqb (num p (f + 1)) n) t),
  )

  has_takes : (f : ℕ) → Takes p n f → takes p f n ≡ true
  unfolding takes is_function
  has_takes f (k, c) =
      and_intro (eqb (tag p f) 3 || eqb (tag p f) 11) (eqb (num p (f + 1)) n)
      (⊎_elim (λ e. or_left (eqb (tag p f) 3) (eqb (tag p f) 11) (eq-eqb (tag p f) 3 e)) (λ e. or_right (eqb (tag p f) 3) (eqb (tag p f) 11) (eq-eqb (tag p f) 11 e)) k)
      (eq-eqb (num p (f + 1)) n c)

  -- a function value that takes n arguments
  abbrev pub IsFunction : Value → Function → Type 0
  IsFunction v f = (v ≡ closure f.row f.held) × Takes p n f.row

  function_has : (v : Value) (f : Function) → function_of p n v ≡ some f → IsFunction v f
  function_has v f h = let (z, t) = function_of_some p n v f h in (z, takes_has f.row t)

  function_gives : (v : Value) (f : Function) → IsFunction v f → function_of p n v ≡ some f
  unfolding function_of
  function_gives v f (z, k) = rw (z, has_takes f.row k, function_of)

  pub function_exactly : (v : Value) → Exactly (function_of p n v) (IsFunction v)
  function_exactly v = record { has = function_has v; gives = function_gives v }

-- only an address is a process's
pub process_of_some : (v : Value) (j : ℕ) → process_of v ≡ some j → v ≡ address j
unfolding process_of
process_of_some (closure f held) j h = absurd (none-ne-some j h)
process_of_some (built r k vs) j h = absurd (none-ne-some j h)
process_of_some (address i) j h = ap address (some-injective i j h)

pub address_exactly : (v : Value) → Exactly (process_of v) (λ j. v ≡ address j)
unfolding process_of
address_exactly v = record { has = process_of_some v; gives = λ j z. rw (z, process_of) }
