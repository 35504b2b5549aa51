-- What is asked of one state.
use Rattle.std.specs.Prelude.{ℕ, ◌+◌, ◌^◌, ◌≤◌, ◌<◌, ◌≡◌, Bool, true, false, List, length, get_or}
use Rattle.model.specs.Index.{implies}
use Rattle.model.specs.declared.Sizes.{Sizes}
use Rattle.model.specs.Words.{Columns, right}
use Rattle.model.specs.Rows.{Program, program, tag, num}
use Rattle.model.specs.Heads.{branch_rows, takes}
use Rattle.model.specs.Tables.{Tables, tables, each, some_of, State, state_at, has_state, onward}
use Rattle.model.specs.Closed.{may_take, entered, state_closed}
use Rattle.bits.specs.Bits.{bit}
use Rattle.branches.specs.Taken.{lacks, are_bodies_closed}
use Rattle.settled.specs.Settled.{Settled}

-- of the call at row r in the state s: it enters the functions that the callee may be
unfoldable pub callees_of : Program → Tables → State → ℕ → Bool
callees_of p t s r = each t.flow (num p (r + 1))
    (λ f. implies (takes p f (num p (r + 2))) (has_state t (entered p s f)))

-- state j goes on at row r
unfoldable pub goes_on : Tables → ℕ → ℕ → Bool
goes_on t r j = has_state t (onward (state_at t j) r)

-- x is k where the state s goes on at the expressions of the branches whose bits k has set, else `lacks`
pub record Here (p : Program) (t : Tables) (s : State) (qs : List ℕ) (k x : ℕ) : Type 0 where
  pub kept : (x ≡ lacks → ⊥) → (x ≡ k) × (are_bodies_closed p t s k qs ≡ true)
  pub lost : x ≡ lacks → (k ≡ lacks → ⊥) → are_bodies_closed p t s k qs ≡ false

-- x is 0 where it is so, `lacks` where not
pub record Flagged (b : Bool) (x : ℕ) : Type 0 where
  pub so : b ≡ true → x ≡ 0
  pub not_so : b ≡ false → x ≡ lacks

-- the bits k of the branches qs with the values that the list pairs with a
pub record BitsOf (p : Program) (t : Tables) (l : Columns) (a : ℕ) (qs : List ℕ) (k : ℕ) : Type 0 where
  pub bits : (b : ℕ) → b < length qs → bit k b ≡ some_of l a (may_take p t (get_or qs b 0))
  pub end : k < 2 ^ length qs

-- state i stands at row r, whose head asks k whatever the state
pub record StateAsked (ws : List ℕ) (s : Sizes) (i r k : ℕ) : Type 0 where
  pub low : i < s.states
  pub location : r ≡ right (tables ws s).states i
  pub settled : Settled (program ws s) (tables ws s) r k

-- k is `lacks` where something that the state s asks for is missing; else it has the bits of its branches, and is 0
-- where it has none
pub record Stated (p : Program) (t : Tables) (s : State) (k : ℕ) : Type 0 where
  pub most : k ≤ lacks
  pub missing : k ≡ lacks → state_closed p t s ≡ false
  pub closed : (k ≡ lacks → ⊥) → state_closed p t s ≡ true
  pub case_bits :
      (k ≡ lacks → ⊥) → tag p s.location ≡ 8 →
      BitsOf p t t.flow (num p s.location)
      (branch_rows p (num p (s.location + 1)) (s.location + 2)) k
  pub receive_bits :
      (k ≡ lacks → ⊥) → tag p s.location ≡ 9 →
      BitsOf p t t.mail s.class (branch_rows p (num p s.location) (s.location + 1)) k
