-- What is asked of the opening: parts of the test of Closed.antt, each with a name.
use Rattle.std.specs.Prelude.{ℕ, Bool, eqb}
use Rattle.model.specs.Index.{implies}
use Rattle.model.specs.Rows.{Program, tag, num}
use Rattle.model.specs.Tables.{Tables, has}

-- of row r: "each tag 11 name holds its own row"
unfoldable pub opening_row_of : Program → Tables → ℕ → Bool
opening_row_of p t r = implies (eqb (tag p r) 11) (has t.flow (num p r) r)
