-- What the readers of a program's rows promise: the model's reading from a row on, over the words of a message whose
-- parts are whole.
use Rattle.std.specs.Prelude.{ℕ, ◌+◌, ◌*◌, ◌-◌, ◌≤◌, ◌≡◌, Bool, true, false, ◌||◌, List, length, eqb, Result, Ok, Err}
use Rattle.std.proofs.Math.Option.{none}
use Rattle.model.specs.declared.Sizes.{Sizes}
use Rattle.model.specs.Limits.{max_rows, max_names, max_constructors, max_functions}
use Rattle.model.specs.Reader.{Read, past, wrong, read}
use Rattle.model.specs.Rows.{Program, program, size, row_check_of, Item, parameter, operand, header, arguments, step}
use Rattle.program.specs.declared.readers.WrongRow.{WrongRow}

-- the program's part is whole, and its sizes are within their limits
pub record Whole (ws : List ℕ) (s : Sizes) : Type 0 where
  pub rows : s.rows ≤ max_rows
  pub names : s.names ≤ max_names
  pub constructors : s.constructors ≤ max_constructors
  pub functions : s.functions ≤ max_functions
  pub held : 4 + 2 * s.rows ≤ length ws

-- the same, and the rows fit the grammar: refusal 3 has found nothing
pub record Fitted (ws : List ℕ) (s : Sizes) : Type 0 where
  pub whole : Whole ws s
  pub fits : row_check_of (program ws s) ≡ none

-- what an answer of a reader says
unfoldable pub reading : Result ℕ WrongRow → Read
reading (Ok r) = past r
reading (Err w) = wrong w.0

-- the items read from row r on
unfoldable pub from : Program → List Item → ℕ → Read
from p items r = read (step p) p.rows (size p - r) items r

-- the two tags whose rows stand in lists: 21 for names read, 23 for parameters
unfoldable pub listed : ℕ → Bool
listed t = eqb t 21 || eqb t 23

-- such a row, and a count with that many of them
unfoldable pub listed_item : ℕ → Item
listed_item t = elim (eqb t 21) [ true ↦ operand | false ↦ parameter ]

unfoldable pub counted_items : ℕ → Item
counted_items t = elim (eqb t 21) [ true ↦ arguments | false ↦ header ]
