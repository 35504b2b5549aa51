-- The lists of the tables part as the code reads them: where their columns stand, and where an entry has its place.
use Rattle.std.specs.Prelude.{ℕ, ◌+◌, ◌*◌, ◌≤◌, ◌<◌, ◌≡◌, Bool, true, false, not, ◌&&◌, List, [], ◌∷◌, length, get_or, take, drop, eqb, leb}
use Rattle.model.specs.declared.Sizes.{Sizes}
use Rattle.model.specs.Index.{first}
use Rattle.model.specs.Keys.{Key, below}
use Rattle.model.specs.Words.{Columns, left, right, columns}
use Rattle.model.specs.Message.{tables_offset}
use Rattle.model.specs.Tables.{Tables}
use Rattle.model.specs.Demands.{Below}
use Rattle.lists.specs.declared.Span.{Span}

-- entry i as a key; a list of two columns has no third numbers, which then are 0
unfoldable pub key_at : Columns → List ℕ → ℕ → Key
key_at c ts i = left c i ∷ right c i ∷ get_or ts i 0 ∷ []

-- each entry is above all before it
abbrev pub Ascending : Columns → List ℕ → Type 0
Ascending c ts = (i j : ℕ) → i < j → j < c.size → Below (key_at c ts i) (key_at c ts j)

-- the list of n entries behind k others, with its third column from the word given on
unfoldable pub span_at : Sizes → ℕ → ℕ → ℕ → Span
span_at s n k thirds =
    record {
      size = n;
      lefts = tables_offset s + 3 + k;
      rights = tables_offset s + 3 + (s.flows + s.mails + s.states) + k;
      thirds = thirds;
    }

unfoldable pub flow_span : Sizes → Span
flow_span s = span_at s s.flows 0 0

unfoldable pub mail_span : Sizes → Span
mail_span s = span_at s s.mails s.flows 0

unfoldable pub state_span : Sizes → Span
state_span s =
    span_at s s.states (s.flows + s.mails) (tables_offset s + 3 + 2 * (s.flows + s.mails + s.states))

-- what stands there: the first two columns, and the third where there is one
unfoldable pub listed : List ℕ → Span → Columns
listed ws l = columns ws l.size l.lefts l.rights

unfoldable pub thirds : List ℕ → Span → List ℕ
thirds ws l = elim (eqb l.thirds 0) [ true ↦ [] | false ↦ take l.size (drop l.thirds ws) ]

-- all columns lie in the words
pub record Held (ws : List ℕ) (l : Span) : Type 0 where
  pub left_held : l.lefts + l.size ≤ length ws
  pub right_held : l.rights + l.size ≤ length ws
  pub third_held : l.thirds + l.size ≤ length ws

-- the first entry that is not below the key: its place in a list that ascends
unfoldable pub place : Columns → List ℕ → Key → ℕ
place c ts k = first 0 c.size (λ i. not (below (key_at c ts i) k))

-- entry i is made of these numbers
unfoldable pub is_entry_of : Columns → List ℕ → ℕ → ℕ → ℕ → ℕ → Bool
is_entry_of c ts a b d i = eqb (left c i) a && (eqb (right c i) b && eqb (get_or ts i 0) d)

-- the first entry that is; the size where there is none
unfoldable pub entry_index : Columns → List ℕ → ℕ → ℕ → ℕ → ℕ
entry_index c ts a b d = first 0 c.size (is_entry_of c ts a b d)

-- entry i begins with a or a number behind it
unfoldable pub reaches : Columns → ℕ → ℕ → Bool
reaches c a i = leb a (left c i)

-- in a list of pairs that ascends those that begin with a stand from here ...
unfoldable pub range_from : Columns → ℕ → ℕ
range_from c a = place c [] (a ∷ 0 ∷ 0 ∷ [])

-- ... up to here
unfoldable pub range_to : Columns → ℕ → ℕ
range_to c a = place c [] ((a + 1) ∷ 0 ∷ 0 ∷ [])

-- the states of class c at row r stand from here ...
unfoldable pub head_from : Tables → ℕ → ℕ → ℕ
head_from t c r = place t.states t.returns (c ∷ r ∷ 0 ∷ [])

-- ... up to here
unfoldable pub head_to : Tables → ℕ → ℕ → ℕ
head_to t c r = place t.states t.returns (c ∷ (r + 1) ∷ 0 ∷ [])

-- word a is where the entries that begin with a stand, and where those of the number before end, for a up to n
pub record Starts (c : Columns) (n : ℕ) (starts : List ℕ) : Type 0 where
  pub room : n < length starts
  pub start : (a : ℕ) → a ≤ n → get_or starts a 0 ≡ range_from c a
