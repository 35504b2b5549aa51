-- The states one after the other.
use Prim.Native.Nat.{ℕ, ◌+◌, ◌≤◌, ◌<◌}
use native.Mathlib.Decide.{ℕ_discrete}
use native.Mathlib.Omega.{arith}
use mathlib.Core.Path.{◌≡◌, refl, ◌∙◌}
use mathlib.Core.Bool.{not}
use mathlib.Core.List.{List}
use lib.ListN.{length, set}
use lib.Seq.{get_or-set_same, get_or-set_other}
use Rattle.model.specs.Index.{first}
use Rattle.model.specs.Rows.{Program}
use Rattle.model.specs.Tables.{Tables, state_at}
use Rattle.model.specs.Closed.{state_closed}
use Rattle.model.proofs.Logic.{not_passes, not_fails}
use Rattle.model.proofs.Index.{first_hit, first_miss, first_end}
use Rattle.branches.specs.Taken.{lacks}
use Rattle.stated.specs.Stated.{Stated}
use Rattle.closure.specs.Told.{first_open_of, Told}

-- before the states from i on
pub record Opens (p : Program) (t : Tables) (branches : List ℕ) (i : ℕ) : Type 0 where
  pub upto : i ≤ t.states.size
  pub told : Told p t branches i
  pub to_come : first_open_of p t ≡ first i t.states.size (λ k. not (state_closed p t (state_at t k)))

module _ {p : Program} {t : Tables} where
  pub opens_begin : (branches : List ℕ) → Opens p t branches 0
  unfolding first_open_of
  opens_begin branches = record {
    upto = omega arith;
    told = record { at = λ k z. absurd (omega arith); low = λ k z. absurd (omega arith) };
    to_come = refl;
  }

  module _ {branches : List ℕ} {i : ℕ} (o : Opens p t branches i) (less : i < t.states.size) (k : ℕ) (st : Stated p t (state_at t i) k) where
    pub opens_here : k ≡ lacks → first_open_of p t ≡ i
    opens_here e = o.to_come ∙ first_hit i t.states.size (λ j. not (state_closed p t (state_at t j))) less (not_passes _ (st.missing e))

    pub opens_next : (k ≡ lacks → ⊥) → i < length branches → Opens p t (set branches i k) (i + 1)
    opens_next ne room = record {
      upto = omega arith;
      told = record {
        at = λ j z. elim (ℕ_discrete j i) [
          | yes q ↦ rw (q, get_or-set_same branches i k 0 room) st
          | no q ↦ rw (get_or-set_other branches i j k 0 q) (o.told.at j (omega arith))
        ];
        low = λ j z. elim (ℕ_discrete j i) [
          | yes q ↦ rw (q, get_or-set_same branches i k 0 room) ne
          | no q ↦ rw (get_or-set_other branches i j k 0 q) (o.told.low j (omega arith))
        ];
      };
      to_come = o.to_come ∙ first_miss i t.states.size (λ j. not (state_closed p t (state_at t j))) less (not_fails _ (st.closed ne));
    }

  pub opens_over : {branches : List ℕ} {i : ℕ} → Opens p t branches i → t.states.size ≤ i → (first_open_of p t ≡ t.states.size) × Told p t branches t.states.size
  opens_over {i = i} o l =
      let upto = o.upto in
      let all : i ≡ t.states.size = omega arith in
      (o.to_come ∙ (first_end i t.states.size (λ j. not (state_closed p t (state_at t j))) l ∙ all), rw all at o.told)
