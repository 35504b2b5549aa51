-- The rows of rules, put into the words one by one.
use Rattle.std.specs.Prelude.{ℕ, ◌+◌, ◌*◌, ◌≤◌, ◌≡◌, List, [], ◌∷◌, length, set, Option}
use Rattle.model.specs.Listing.{Line, line}
use Rattle.system_totals.specs.Lines.{third_lines}

-- row x of n rows: its tag among the tags, its number among the numbers
unfoldable pub put_line : List ℕ → ℕ → ℕ → Line → List ℕ
put_line out n x l = set (set out (4 + x) l.tag) (4 + n + x) l.number

-- rows from x on
unfoldable pub put_lines : List ℕ → ℕ → ℕ → List Line → List ℕ
put_lines out n x [] = out
put_lines out n x (l ∷ ls) = put_lines (put_line out n x l) n (x + 1) ls

-- the rows of a rule whose third row, if it has one, has this tag
unfoldable pub rows_of : ℕ → ℕ → Option ℕ → ℕ → List Line
rows_of from to third z = line 50 from ∷ line 51 to ∷ third_lines third z

-- there is room for these rows from row x on, of n rows
pub record Room (out : List ℕ) (n x : ℕ) (ls : List Line) : Type 0 where
  pub words : 4 + 2 * n ≤ length out
  pub rows : x + length ls ≤ n

-- they were put there, up to row e
pub record Put (out out' : List ℕ) (n x e : ℕ) (ls : List Line) : Type 0 where
  pub next : e ≡ x + length ls
  pub put : out' ≡ put_lines out n x ls
