-- Four tables of words, one behind the other: where expressions and patterns end, where the flow of each name begins,
-- the branches of each state that may match, and where the letters of each class begin.
use Rattle.std.specs.Prelude.{ℕ, ◌+◌, ◌*◌, ◌≤◌, ◌<◌, ◌≡◌, List, length, get_or, drop}
use Rattle.model.specs.declared.Sizes.{Sizes}
use Rattle.model.specs.Limits.{max_rows}
use Rattle.values.specs.Values.{width}
use Rattle.rules.specs.Derived.{RuleTables}

-- a word for each row, one for the end, and one behind it: so much room each table has
abbrev pub table_room : ℕ
table_room = max_rows + 2

-- the first stands at the front, and there the others begin
abbrev pub flow_from : ℕ
flow_from = table_room

abbrev pub branches_from : ℕ
branches_from = 2 * table_room

abbrev pub letter_from : ℕ
letter_from = 3 * table_room

-- what the rules of a state are read from
abbrev pub JoinedTables : List ℕ → Sizes → List ℕ → List ℕ → List ℕ → List ℕ → Type 0
JoinedTables ws s narrow fitting names letters =
    RuleTables ws s narrow (drop flow_from narrow) (width s.names) fitting names (drop letter_from narrow) letters
    (drop branches_from narrow)

-- the first n words are the same
abbrev pub SameBelow : ℕ → List ℕ → List ℕ → Type 0
SameBelow n xs ys = (x : ℕ) → x < n → get_or ys x 0 ≡ get_or xs x 0

-- as many words of the second and the third as their predicates ask for are put into their places, and the words at
-- the front stay
pub record Joined (s : Sizes) (flow-at branches before after : List ℕ) : Type 0 where
  pub long : length after ≡ length before
  pub front : SameBelow flow_from before after
  pub flow : (a : ℕ) → a ≤ s.names → get_or (drop flow_from after) a 0 ≡ get_or flow-at a 0
  pub branch : (i : ℕ) → i < s.states → get_or (drop branches_from after) i 0 ≡ get_or branches i 0
