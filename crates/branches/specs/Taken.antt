-- The branches of a case or receive by their codes: which of them may match, as bits, and what is asked of their
-- expressions.
use Rattle.std.specs.Prelude.{ℕ, ◌+◌, ◌*◌, ◌/◌, ◌^◌, ◌≤◌, ◌<◌, ◌≡◌, Bool, true, false, ◌&&◌, ◌||◌, List, [], ◌∷◌, eqb, length, get_or}
use Rattle.model.specs.Limits.{max_depth, max_branches}
use Rattle.model.specs.declared.Sizes.{Sizes}
use Rattle.model.specs.Index.{implies}
use Rattle.model.specs.Words.{Columns}
use Rattle.model.specs.Rows.{Program, program, size}
use Rattle.model.specs.Heads.{branch_body_of, branch_rows}
use Rattle.model.specs.Tables.{Tables, each, some_of, State, onward, has_state}
use Rattle.model.specs.Closed.{may_take, branches_closed}
use Rattle.layout.specs.Tables.{Ends}
use Rattle.bits.specs.Bits.{odd, bit, Row}
use Rattle.lists.specs.Ready.{Ready}
use Rattle.positions.specs.Positions.{Run}
use Rattle.values.specs.Values.{width, Values}
use Rattle.matching.specs.Patterns.{values_code}

-- the code of the branch at row q with the values that the list pairs with a
unfoldable pub branch_code : Program → Tables → Columns → ℕ → ℕ → ℕ
branch_code p t l a q = values_code p t l a max_depth q

-- what is asked where the code is k and the state is there or not: 0 nothing; 1 the state; 2 something lacks
unfoldable pub code_closed : ℕ → Bool → Bool
code_closed k there = eqb k 0 || eqb k 1 && there

-- of the branches at these rows, where the state s takes them
unfoldable pub codes_closed : Program → Tables → State → (ℕ → ℕ) → List ℕ → Bool
codes_closed p t s f [] = true
codes_closed p t s f (q ∷ qs) = code_closed (f q) (has_state t (onward s (branch_body_of p q))) && codes_closed p t s f qs

-- some branch lacks something
unfoldable pub lacking : (ℕ → ℕ) → List ℕ → Bool
lacking f [] = false
lacking f (q ∷ qs) = eqb (f q) 2 || lacking f qs

-- the codes as bits, where none is 2; the first of them weighs w
unfoldable pub code_bits : (ℕ → ℕ) → ℕ → List ℕ → ℕ
code_bits f w [] = 0
code_bits f w (q ∷ qs) = f q * w + code_bits f (w * 2) qs

-- more than any bits of 16 branches: something lacks
abbrev pub lacks : ℕ
lacks = 65536

unfoldable pub taken_bits : (ℕ → ℕ) → List ℕ → ℕ
taken_bits f qs = elim (lacking f qs) [ true ↦ lacks | false ↦ code_bits f 1 qs ]

-- at the expressions of the branches whose bits are set the state s goes on
unfoldable pub are_bodies_closed : Program → Tables → State → ℕ → List ℕ → Bool
are_bodies_closed p t s k [] = true
are_bodies_closed p t s k (q ∷ qs) = implies (odd k) (has_state t (onward s (branch_body_of p q))) &&
    are_bodies_closed p t s (k / 2) qs

-- what the parts of a head are found by: the checks before refusal 8 found nothing, and the layout is filled
pub record LayoutReady (ws : List ℕ) (s : Sizes) (afters : List ℕ) : Type 0 where
  pub ready : Ready ws s
  pub layout : Ends (program ws s) afters

-- the values of set n may be asked of the branches from row q on: the set is there, and so many branches
pub record BranchesAsked (ws : List ℕ) (s : Sizes) (sets : List ℕ) (n q count : ℕ) : Type 0 where
  pub row : Row sets (width s.rows) n
  pub run : Run (program ws s) q count
  pub few : count ≤ max_branches

-- k has the bits of the branches with the values of set n, whatever list they are of
pub record IsTaken (p : Program) (t : Tables) (sets : List ℕ) (n q count k : ℕ) : Type 0 where
  pub of_list :
      (l : Columns) (a : ℕ) → Values l a (width (size p)) n sets →
      k ≡ taken_bits (branch_code p t l a) (branch_rows p count q)

-- what the bits k say of the branches qs with the values that the list pairs with a
pub record BitsTold (p : Program) (t : Tables) (l : Columns) (a : ℕ) (qs : List ℕ) (k : ℕ) : Type 0 where
  pub lacked : k ≡ lacks → (s : State) → each l a (branches_closed p t s qs) ≡ false
  pub closed : (k ≡ lacks → ⊥) → (s : State) → each l a (branches_closed p t s qs) ≡ are_bodies_closed p t s k qs
  pub bits : (k ≡ lacks → ⊥) → (b : ℕ) → b < length qs → bit k b ≡ some_of l a (may_take p t (get_or qs b 0))
  pub end : (k ≡ lacks → ⊥) → k < 2 ^ length qs
