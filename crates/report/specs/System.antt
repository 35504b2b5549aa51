-- A system as text, in the words of document 01, "Station A": "the four system sizes, then a tag and number a line."
use Rattle.std.specs.Prelude.{ℕ, zero, suc, List, [], ◌∷◌, ◌++◌, get_or}
use Rattle.model.specs.Words.{left, right}
use Rattle.model.specs.Listing.{listed_rows}
use Rattle.text.specs.Text.{pair, line_end, line}

-- "the four system sizes", on one line
unfoldable pub sizes_text : List ℕ → List ℕ
sizes_text ws = pair (get_or ws 0 0) (get_or ws 1 0) ++ (32 ∷ pair (get_or ws 2 0) (get_or ws 3 0)) ++ line_end

-- "a tag and number a line": row r, and the first n rows
unfoldable pub row_text : List ℕ → ℕ → List ℕ
row_text ws r = line (left (listed_rows ws) r) (right (listed_rows ws) r)

unfoldable pub rows_text : List ℕ → ℕ → List ℕ
rows_text ws zero = []
rows_text ws (suc n) = rows_text ws n ++ row_text ws n

unfoldable pub system_text : List ℕ → List ℕ
system_text ws = sizes_text ws ++ rows_text ws (listed_rows ws).size
