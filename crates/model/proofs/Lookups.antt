-- Reading names: what a name holds is covered by flow, and so are the arguments read for a call or a build.
use Prim.Native.Nat.{ℕ, suc, ◌<◌}
use native.Mathlib.Omega.{arith}
use mathlib.Core.Path.{◌≡◌, refl, ap, subst}
use mathlib.Core.List.{List, [], ◌∷◌}
use mathlib.Core.Option.{Option, some, none, none-ne-some}
use lib.ListN.{length, get_or}
use lib.Dec.{eqb}
use borrow.Author.Tests.{eq-eqb}
use Rattle.model.specs.Rows.{Program, tag, num}
use Rattle.model.specs.Heads.{is_function}
use Rattle.model.specs.Values.{Value, closure, Bindings, empty, bind, value_of, values_of, bind_all}
use Rattle.model.specs.Tables.{Tables}
use Rattle.model.specs.Patterns.{RowAt, Newest, newest, older, global, local, HoldEach, no_names, one_name}
use Rattle.model.specs.Patterns.{Holds as Has-value}
use Rattle.model.specs.Wanted.{Member, Closed, global_name, flow, by_opening}
use Rattle.model.specs.Run.{◌>>=◌}
use Rattle.model.proofs.Logic.{or_right}
use Rattle.model.proofs.Transitions.Names.{value_exactly, values_exactly}
use Rattle.model.proofs.Covering.{row_for, names_of, Covered, Held}

-- a step of two gives what its first gives to its second
pub record Bound {A B : Type 0} (m : Option A) (f : A → Option B) (b : B) : Type 0 where
  pub value : A
  pub given : m ≡ some value
  pub then : f value ≡ some b

pub bind_some : {A B : Type 0} (m : Option A) (f : A → Option B) (b : B) → ◌>>=◌ m f ≡ some b → Bound m f b
unfolding ◌>>=◌
bind_some none f b h = absurd (none-ne-some b h)
bind_some (some a) f b h = record { value = a; given = refl; then = h }

module _ (p : Program) (t : Tables) (closed : Closed p t) (classes : List ℕ) where
  -- a value with the name that holds it
  abbrev pub Holds : ℕ → Value → Type 0
  Holds n v = Member t.flow n (row_for classes v) × Covered p t classes v

  newest_held : {n : ℕ} {v : Value} {held : Bindings} → Held p t classes held → Newest n v held → Holds n v
  newest_held h newest = (h.0, h.1)
  newest_held h (older other k) = newest_held h.2 k

  -- "A tag 11 name yields its own row's function": wanted first
  global_held : {g n : ℕ} → RowAt p g 11 n → Holds n (closure g empty)
  unfolding row_for is_function
  global_held {g} r = (
    subst (λ k. Member t.flow k g) r.numbered (closed (flow (num p g) g) (by_opening (global_name g r.tagged))),
    (or_right (eqb (tag p g) 3) (eqb (tag p g) 11) (eq-eqb (tag p g) 11 r.tagged), tt),
  )

  pub held_value : {held : Bindings} {n : ℕ} {v : Value} → Held p t classes held → Has-value p held n v → Holds n v
  held_value h (global r before) = global_held r
  held_value h (local none-global k) = newest_held h k

  pub value_held : (held : Bindings) (n : ℕ) (v : Value) → Held p t classes held → value_of p held n ≡ some v → Holds n v
  value_held held n v h e = held_value h ((value_exactly p n held).has v e)

  -- several names: the values stand under those names, in order
  held_values : {held : Bindings} {ns : List ℕ} {vs : Bindings} → Held p t classes held → HoldEach p held ns vs → (names_of vs ≡ ns) × Held p t classes vs
  unfolding names_of
  held_values h no_names = (refl, tt)
  held_values h (one_name {n = n} v k) =
      let (names, others) = held_values h k in
      let (member, covered) = held_value h v in
      (ap {B = List ℕ} (λ l. n ∷ l) names, (member, covered, others))

  pub values_held : (held : Bindings) (ns : List ℕ) (vs : Bindings) → Held p t classes held → values_of p held ns ≡ some vs → (names_of vs ≡ ns) × Held p t classes vs
  values_held held ns vs h e = held_values h ((values_exactly p held ns).has vs e)

  -- where each name is wanted to hold what the name in its place holds, the arguments may be bound to the parameters
  pub bind_all_held : (ns : List ℕ) (vs held : Bindings) → Held p t classes held → Held p t classes vs → ((i : ℕ) (v : ℕ) → i < length (names_of vs) → Member t.flow (get_or (names_of vs) i 0) v → Member t.flow (get_or ns i 0) v) → Held p t classes (bind_all ns vs held)
  unfolding bind_all names_of
  bind_all_held [] vs held h hs pass = h
  bind_all_held (n ∷ ns) empty held h hs pass = h
  bind_all_held (n ∷ ns) (bind m v vs) held h hs pass =
      (pass 0 (row_for classes v) (omega arith) hs.0, hs.1, bind_all_held ns vs held h hs.2 (λ i w b. pass (suc i) w (omega arith)))
