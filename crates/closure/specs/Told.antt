-- The bits of all states so far, and the verdict.
use Rattle.std.specs.Prelude.{ℕ, ◌+◌, ◌<◌, ◌≡◌, not, List, eqb, get_or}
use Rattle.model.specs.declared.Sizes.{Sizes}
use Rattle.model.specs.declared.Verdict.{Verdict}
use Rattle.model.specs.declared.Verdict.TheVariants.{Open}
use Rattle.model.specs.Index.{first}
use Rattle.model.specs.Verdict.{Check, unless}
use Rattle.model.specs.Message.{tables_offset}
use Rattle.model.specs.Rows.{Program}
use Rattle.model.specs.Tables.{Tables, state_at}
use Rattle.model.specs.Closed.{state_closed}
use Rattle.branches.specs.Taken.{lacks}
use Rattle.stated.specs.Stated.{Stated}

-- the first state that lacks something
unfoldable pub first_open_of : Program → Tables → ℕ
first_open_of p t = first 0 t.states.size (λ k. not (state_closed p t (state_at t k)))

-- each state before i has its bits
pub record Told (p : Program) (t : Tables) (branches : List ℕ) (i : ℕ) : Type 0 where
  pub at : (k : ℕ) → k < i → Stated p t (state_at t k) (get_or branches k 0)
  pub low : (k : ℕ) → k < i → get_or branches k 0 ≡ lacks → ⊥

-- 8, where the opening entries are there: "the first state that lacks something, its first column's word"
unfoldable pub open_state : Sizes → ℕ → Verdict
open_state s i = Open (tables_offset s + 3 + s.flows + s.mails + i)

unfoldable pub states_check : Sizes → Program → Tables → Check
states_check s p t = unless (eqb (first_open_of p t) t.states.size) (open_state s (first_open_of p t))
