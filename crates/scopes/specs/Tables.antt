-- What the tables of binders and of next heads hold.
use Rattle.std.specs.Prelude.{ℕ, ◌<◌, ◌≡◌, Bool, true, false, List, ltb, get_or, Option, Some, None}
use Rattle.model.specs.declared.Sizes.{Sizes}
use Rattle.model.specs.Rows.{Program, program, size}
use Rattle.model.specs.Scopes.{binder, next_head}
use Rattle.program.specs.Rows.{Fitted}
use Rattle.layout.specs.Tables.{Ends}

-- for each name the row that binds it first; the number of rows where none does
pub record BinderTable (p : Program) (table : List ℕ) : Type 0 where
  pub binders : (n : ℕ) → n < p.names → get_or table n 0 ≡ binder p n

-- the names before e have the number of rows: no row binds them
pub record Unbound (p : Program) (e : ℕ) (table : List ℕ) : Type 0 where
  pub rows : (n : ℕ) → n < e → get_or table n 0 ≡ size p

-- some row binds the name n
unfoldable pub is_bound : Program → ℕ → Bool
is_bound p n = ltb (binder p n) (size p)

-- for each row the next head from there on; the number of rows where there is none
pub record HeadTable (p : Program) (table : List ℕ) : Type 0 where
  pub heads : (r : ℕ) → r < size p → get_or table r 0 ≡ next_head p r

-- a program that fits, with its tables of ends and of next heads
pub record Laid (ws : List ℕ) (s : Sizes) (afters heads : List ℕ) : Type 0 where
  pub fitted : Fitted ws s
  pub after : Ends (program ws s) afters
  pub head : HeadTable (program ws s) heads

-- the index that a search below e found, or none where it came to e
unfoldable pub found_below : ℕ → ℕ → Option ℕ
found_below e r = elim (ltb r e) [ true ↦ Some r | false ↦ None ]
