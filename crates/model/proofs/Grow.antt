-- A new process changes nothing of what covers the values there are: their addresses are of the processes before.
use Prim.Native.Nat.{ℕ, ◌+◌}
use native.Mathlib.Omega.{arith}
use mathlib.Core.Path.{◌≡◌, refl, sym, subst}
use mathlib.Core.List.{List, ◌++◌}
use lib.ListN.{get_or-append, length-append}
use Rattle.model.specs.Rows.{Program}
use Rattle.model.specs.Values.{Value, closure, built, address, Bindings, empty, bind}
use Rattle.model.specs.Tables.{Tables}
use Rattle.model.specs.Wanted.{Member}
use Rattle.model.proofs.Covering.{row_for, Covered, Held}

module _ (p : Program) (t : Tables) (classes more : List ℕ) where
  pub row_for_grown : (v : Value) → Covered p t classes v → row_for (classes ++ more) v ≡ row_for classes v
  unfolding row_for
  row_for_grown (closure f held) h = refl
  row_for_grown (built r k vs) h = refl
  row_for_grown (address i) h = get_or-append classes more 0 i h

  mutual
    pub covered_grown : (v : Value) → Covered p t classes v → Covered p t (classes ++ more) v
    covered_grown (closure f held) h = (h.0, held_grown held h.1)
    covered_grown (built r k vs) h = (h.0, h.1, h.2, held_grown vs h.3)
    covered_grown (address i) h = omega (arith, length-append classes more)

    pub held_grown : (held : Bindings) → Held p t classes held → Held p t (classes ++ more) held
    held_grown empty h = tt
    held_grown (bind n v held) h =
        (subst (Member t.flow n) (sym (row_for_grown v h.1)) h.0, covered_grown v h.1, held_grown held h.2)
