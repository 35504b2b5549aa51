-- Values that are full: each function in them holds something in every name that is in scope at its row; and built values have an argument for each
-- pattern that can stand against them.
use Prim.Native.Nat.{ℕ, zero, suc, ◌<◌}
use native.Mathlib.Omega.{arith}
use mathlib.Core.Path.{◌≡◌, refl, ap}
use mathlib.Core.Bool.{true}
use mathlib.Core.List.{List}
use lib.ListN.{length, get_or}
use Rattle.model.specs.Rows.{Program, size, arity}
use Rattle.model.specs.Heads.{is_function}
use Rattle.model.specs.Values.{Value, closure, built, address, Bindings, empty, bind}
use Rattle.model.specs.Patterns.{Newest, newest, older, Holds, global, local, HoldEach, no_names, one_name}
use Rattle.model.specs.Transitions.{BoundTo, no_parameters, no_arguments, one_parameter}
use Rattle.model.specs.NoEmptyName.{HoldsSomething}
use Rattle.model.proofs.Covering.{names_of}
use Rattle.model.proofs.Parse.Reached.{RowsFit}
use Rattle.model.proofs.NoEmptyName.Held.{bound_holds, still_holds, Covers, Extends, covers_global}

mutual
  pub data Full (p : Program) : Value → Type 0 where
    full_function : {f : ℕ} {kept : Bindings} → f < size p → is_function p f ≡ true → Covers p kept f → AllFull p kept → Full p (closure f kept)
    full_built : {r k : ℕ} {vs : Bindings} → length (names_of vs) ≡ arity p k → AllFull p vs → Full p (built r k vs)
    full_address : {i : ℕ} → Full p (address i)

  pub data AllFull (p : Program) : Bindings → Type 0 where
    none_held : AllFull p empty
    one_held : {n : ℕ} {v : Value} {held : Bindings} → Full p v → AllFull p held → AllFull p (bind n v held)

module _ {p : Program} where
  newest_full : {n : ℕ} {v : Value} {held : Bindings} → Newest n v held → AllFull p held → Full p v
  newest_full newest (one_held f fs) = f
  newest_full (older ne k) (one_held f fs) = newest_full k fs

  -- each parameter is bound, and what the function keeps stays
  pub bound_full : {kept : Bindings} {ns : List ℕ} {vs held : Bindings} → BoundTo kept ns vs held → AllFull p kept → AllFull p vs → AllFull p held
  bound_full no_parameters k h = k
  bound_full no_arguments k h = k
  bound_full (one_parameter b) k (one_held f fs) = one_held f (bound_full b k fs)

  bound_still : {kept : Bindings} {ns : List ℕ} {vs held : Bindings} → BoundTo kept ns vs held → (n : ℕ) → HoldsSomething p kept n → HoldsSomething p held n
  bound_still no_parameters n h = h
  bound_still no_arguments n h = h
  bound_still (one_parameter b) n h = still_holds (bound_still b n h)

  pub bound_extends : {ns : List ℕ} {vs kept held : Bindings} → BoundTo kept ns vs held → Extends p kept held
  bound_extends b = record { holds = bound_still b }

  pub bound_own : {kept : Bindings} {ns : List ℕ} {vs held : Bindings} → BoundTo kept ns vs held → length ns ≡ length (names_of vs) → (i : ℕ) → i < length ns → HoldsSomething p held (get_or ns i 0)
  unfolding names_of
  bound_own no_parameters e i l = absurd (omega arith)
  bound_own no_arguments e i l = absurd (omega arith)
  bound_own (one_parameter {n = n} {v = v} {held' = held} b) e zero l = bound_holds n v held
  bound_own (one_parameter b) e (suc i) l = still_holds (bound_own b (omega arith) i (omega arith))

module _ {p : Program} (fit : RowsFit p) where
  -- what a name holds is full, and so are several
  pub holds_full : {n : ℕ} {v : Value} {held : Bindings} → Holds p held n v → AllFull p held → Full p v
  unfolding is_function
  holds_full (global {g = g} r never) h =
      full_function r.below (rw r.tagged) (covers_global fit empty g r.tagged) none_held
  holds_full (local never k) h = newest_full k h

  pub each_full : {held : Bindings} {ns : List ℕ} {vs : Bindings} → HoldEach p held ns vs → AllFull p held → AllFull p vs
  each_full no_names h = none_held
  each_full (one_name k ks) h = one_held (holds_full k h) (each_full ks h)

  pub each_many : {held : Bindings} {ns : List ℕ} {vs : Bindings} → HoldEach p held ns vs → length (names_of vs) ≡ length ns
  unfolding names_of
  each_many no_names = refl
  each_many (one_name k ks) = ap suc (each_many ks)
