-- What each turn of the loops over the rules of a head that goes by no letter gives, by the tables that the code
-- reads. e is the number of the state s that the rules are told from.
use Rattle.std.specs.Prelude.{ℕ, ◌≡◌, true, List, [], ◌∷◌}
use Rattle.bits.specs.Bits.{bit}
use Rattle.model.specs.Index.{only}
use Rattle.model.specs.Words.{right}
use Rattle.model.specs.Rows.{Program, tag, is_head_of}
use Rattle.model.specs.Heads.{takes, branch_body_of}
use Rattle.model.specs.Tables.{Tables, State, state_at, state_index_of, onward}
use Rattle.model.specs.Closed.{entered, resumed, begun}
use Rattle.model.specs.Rules.{quiet, starts, Rule, rule}
use Rattle.positions.specs.Positions.{branch_row}

-- the head at row r is a build, a function or self
pub record Plain (p : Program) (r : ℕ) : Type 0 where
  pub head : is_head_of (tag p r) ≡ true
  pub not_give : ¬ (tag p r ≡ 1)
  pub not_call : ¬ (tag p r ≡ 4)
  pub not_send : ¬ (tag p r ≡ 5)
  pub not_spawn : ¬ (tag p r ≡ 6)
  pub not_case : ¬ (tag p r ≡ 8)
  pub not_receive : ¬ (tag p r ≡ 9)

-- giving back to the call of state j
unfoldable pub give_turn : Program → Tables → ℕ → ℕ → List Rule
give_turn p t e j = rule e (state_index_of t (resumed p (state_at t j))) quiet ∷ []

-- a call with n arguments of the function of flow entry j
unfoldable pub call_turn : Program → Tables → State → ℕ → ℕ → ℕ → List Rule
call_turn p t s n e j = only (takes p (right t.flow j) n)
    (rule e (state_index_of t (entered p s (right t.flow j))) quiet)

-- a spawn of the function of flow entry j, and on to the state `to`
unfoldable pub spawn_turn : Program → Tables → State → ℕ → ℕ → ℕ → List Rule
spawn_turn p t s to e j = only (takes p (right t.flow j) 0)
    (rule e to (starts (state_index_of t (begun p s (right t.flow j)))))

-- branch b of a case whose branches stand from row q
unfoldable pub case_turn : Program → Tables → State → ℕ → ℕ → ℕ → ℕ → List Rule
case_turn p t s bits q e b = only (bit bits b)
    (rule e (state_index_of t (onward s (branch_body_of p (branch_row p q b)))) quiet)
