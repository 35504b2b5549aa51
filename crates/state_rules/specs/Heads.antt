-- The rules of a send and of a receive, turn by turn of their loops, and what they are read from. e is the number of
-- the state s that the rules are told from.
use Rattle.std.specs.Prelude.{ℕ, ◌≡◌, List, Option}
use Rattle.std.proofs.Math.Option.{none}
use Rattle.model.specs.declared.Sizes.{Sizes}
use Rattle.model.specs.Words.{right}
use Rattle.model.specs.Rows.{Program, program}
use Rattle.model.specs.Heads.{branch_body_of}
use Rattle.model.specs.Tables.{Tables, tables, State, state_index_of, onward}
use Rattle.model.specs.Closed.{open_check}
use Rattle.model.specs.Rules.{Rule}
use Rattle.layout.specs.Tables.{Ends}
use Rattle.positions.specs.Positions.{branch_row}
use Rattle.positions.specs.Branches.{BranchBits}
use Rattle.system_letters.specs.Letters.{letter_width_of}
use Rattle.rules.specs.Derived.{RuleRoom, SentTables, StateHead}
use Rattle.rules.specs.Within.{AskedRow}
use Rattle.branch_letters.specs.Kept.{ReadTables}
use Rattle.lettered_rules.specs.Turns.{sent_turn, read_turn}

-- the letters of the name m put into the mail of the class of flow entry j
unfoldable pub send_turn : Program → Tables → ℕ → ℕ → ℕ → ℕ → List Rule
send_turn p t m to e j = sent_turn p t m to (right t.flow j) e

-- branch b of a receive whose branches stand from row q
unfoldable pub receive_turn : Program → Tables → State → ℕ → ℕ → ℕ → List Rule
receive_turn p t s q e b =
    read_turn p t s.class (branch_row p q b) (state_index_of t (onward s (branch_body_of p (branch_row p q b)))) e

-- The rules of sends: the tables are closed, and these are those of the message.
pub record SendTables (ws : List ℕ) (s : Sizes) (afters flow-at letter_at letters : List ℕ) : Type 0 where
  pub closed : open_check s (program ws s) (tables ws s) ≡ none
  pub ends : Ends (program ws s) afters
  pub sent_tables : SentTables ws s flow-at letter_at letters

-- The rules of receives: which branches may match, and what these read.
pub record ReceiveTables (ws : List ℕ) (s : Sizes) (afters : List ℕ) (w : ℕ)
    (fitting names letter_at letters branches : List ℕ) : Type 0 where
  pub branch_bits : BranchBits (program ws s) (tables ws s) branches
  pub read_tables : ReadTables ws s afters w fitting names letter_at letters

-- State i, at row r, goes by letters, as its tag k says; the set of letters, if one is asked for, has room for all, and there is room for the rules.
pub record LetteredState (ws : List ℕ) (s : Sizes) (i r k : ℕ) (within : Option (List ℕ))
    (tos others : List ℕ) : Type 0 where
  pub state : StateHead ws s i r k
  pub within_row : AskedRow within (letter_width_of (program ws s) (tables ws s))
  pub room : RuleRoom ws s tos others
