-- The rows of rules, and how many rules and rows there are.
use Rattle.std.specs.Prelude.{ℕ, ◌*◌, ◌≤◌, ◌≡◌, List, [], ◌∷◌, length, Option, Some, None}
use Rattle.model.specs.Limits.{max_states}
use Rattle.model.specs.Rows.{Program, Kind, give, build, function, call, send, spawn, self, case, receive, other}
use Rattle.model.specs.Tables.{Tables}
use Rattle.model.specs.Index.{from_all}
use Rattle.model.specs.Rules.{Rule, rules}
use Rattle.model.specs.Listing.{Line, line, rule_lines}
use Rattle.system_totals.specs.declared.Totals.{Totals}

-- the rows of rules
unfoldable pub lines : List Rule → List Line
lines ρs = from_all ρs rule_lines

-- how many rules, and how many rows
unfoldable pub counted : List Rule → Totals
counted ρs = record { rules = length ρs; rows = length (lines ρs) }

-- These are the totals of the system: of at most so many states, none has more than 65,536 rules, and none of these
-- more than three rows.
pub record Totalled (p : Program) (t : Tables) (n : Totals) : Type 0 where
  pub told : n ≡ counted (rules p t)
  pub few_rules : n.rules ≤ 65536 * max_states
  pub few_rows : n.rows ≤ 3 * 65536 * max_states

-- "then nothing, (52, letter counter read), (53, letter counter put) or (54, new state)":
-- the tag that the rules at a head of this kind have there, and none for nothing
unfoldable pub third_tag_of : Kind → Option ℕ
third_tag_of give = None
third_tag_of build = None
third_tag_of function = None
third_tag_of call = None
third_tag_of send = Some 53
third_tag_of spawn = Some 54
third_tag_of self = None
third_tag_of case = None
third_tag_of receive = Some 52
third_tag_of other = None

-- the row behind the two that every rule has
unfoldable pub third_lines : Option ℕ → ℕ → List Line
third_lines None x = []
third_lines (Some tag) x = line tag x ∷ []

-- the rows of such a rule
unfoldable pub row_count : Option ℕ → ℕ
row_count None = 2
row_count (Some tag) = 3
