-- The sizes of a message, read one after the other: each where the sizes before it say that it stands.
use Prim.Native.Nat.{ℕ, ◌+◌, ◌*◌}
use mathlib.Core.Path.{◌≡◌}
use mathlib.Core.List.{List}
use lib.ListN.{get_or}
use Rattle.model.specs.declared.Sizes.{Sizes}
use Rattle.model.specs.Message.{table_cells_of, fifth_size_of, sizes}

pub sized : (ws : List ℕ) (rows names constructors functions bads badrows flows mails states cells ceilings entries lines weights : ℕ)
    → rows ≡ get_or ws 0 0
    → names ≡ get_or ws 1 0
    → constructors ≡ get_or ws 2 0
    → functions ≡ get_or ws 3 0
    → bads ≡ get_or ws (4 + 2 * rows) 0
    → badrows ≡ get_or ws (4 + 2 * rows + 1) 0
    → flows ≡ get_or ws (4 + 2 * rows + 2 + 2 * badrows) 0
    → mails ≡ get_or ws (4 + 2 * rows + 2 + 2 * badrows + 1) 0
    → states ≡ get_or ws (4 + 2 * rows + 2 + 2 * badrows + 2) 0
    → cells ≡ table_cells_of flows mails states
    → ceilings ≡ get_or ws (4 + 2 * rows + 2 + 2 * badrows + 3 + cells) 0
    → entries ≡ get_or ws (4 + 2 * rows + 2 + 2 * badrows + 3 + cells + 1) 0
    → lines ≡ fifth_size_of ceilings entries (get_or ws (4 + 2 * rows + 2 + 2 * badrows + 3 + cells + 2) 0)
    → weights ≡ fifth_size_of ceilings entries (get_or ws (4 + 2 * rows + 2 + 2 * badrows + 3 + cells + 3) 0)
    → ◌≡◌ {A = Sizes} (record { rows = rows; names = names; constructors = constructors; functions = functions; bads = bads; badrows = badrows; flows = flows; mails = mails; states = states; ceilings = ceilings; entries = entries; lines = lines; weights = weights }) (sizes ws)
unfolding sizes
sized ws rows names constructors functions bads badrows flows mails states cells ceilings entries lines weights a b c d e f g h i t j k l w = cc
