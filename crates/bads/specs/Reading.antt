-- Reading by a grammar row by row: what one row makes of the items that are still to come, and the first wrong row of
-- those that are left.
use Rattle.std.specs.Prelude.{ℕ, ◌-◌, List, [], ◌∷◌, ◌++◌}
use Rattle.std.proofs.Math.Option.{Option, none, map}
use Rattle.model.specs.Words.{Columns}
use Rattle.model.specs.Reader.{Grammar, read, complete}

-- a row is read by the item on top; where there is no item, no row fits
unfoldable pub row_step : {Item : Type 0} → Grammar Item → List Item → ℕ → ℕ → Option (List Item)
row_step step [] t n = none
row_step step (item ∷ items) t n = map (λ more. more ++ items) (step item t n)

-- the first wrong row, where these items are to come from row r on
unfoldable pub wrong_from : {Item : Type 0} → Grammar Item → Columns → List Item → ℕ → Option ℕ
wrong_from step rows items r = complete rows.size (read step rows (rows.size - r) items r)
