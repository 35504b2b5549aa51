-- Laws of reading row by row (specs/Reading.antt), for any grammar: what is left gives what the whole gives.
use Prim.Native.Nat.{ℕ, zero, ◌+◌, ◌-◌, ◌<◌}
use native.Mathlib.Omega.{arith}
use mathlib.Core.Path.{◌≡◌, refl}
use mathlib.Core.List.{List, [], ◌∷◌, ◌++◌}
use mathlib.Core.Option.{Option, some, none, map, some-ne-none, some-injective, none-ne-some}
use borrow.Author.Tests.{eq-eqb, ne_eqb}
use Rattle.model.specs.Words.{Columns, left, right}
use Rattle.model.specs.Reader.{Grammar, complete, first_wrong_of}
use Rattle.model.proofs.Reader.{by_option, read_none, read_end, read_stop, read_go}
use Rattle.model.proofs.Index.{turn}
use Rattle.bads.specs.Reading.{row_step, wrong_from}

map_none : {A B : Type 0} (f : A → B) (x : Option A) → map f x ≡ none → x ≡ none
map_none f none h = refl
map_none f (some a) h = absurd (some-ne-none (f a) h)

module _ {Item : Type 0} (step : Grammar Item) (rows : Columns) where
  pub wrong_start : (items : List Item) → first_wrong_of step rows items ≡ wrong_from step rows items 0
  unfolding first_wrong_of wrong_from
  wrong_start items = let z : rows.size - 0 ≡ rows.size = omega arith in rw z

  -- a row that no item takes is the first wrong one
  pub wrong_stop : (items : List Item) (r : ℕ) → r < rows.size → row_step step items (left rows r) (right rows r) ≡ none → wrong_from step rows items r ≡ some r
  unfolding wrong_from row_step complete
  wrong_stop [] r h e = rw (read_none step rows (rows.size - r) r, ne_eqb r rows.size (λ z. omega arith), complete)
  wrong_stop (item ∷ items) r h e =
      rw (turn r rows.size h, read_stop step rows (rows.size - (r + 1)) r item items (map_none _ _ e))

  -- behind a row that is taken, reading goes on
  pub wrong_go : (items more : List Item) (r : ℕ) → r < rows.size → row_step step items (left rows r) (right rows r) ≡ some more → wrong_from step rows items r ≡ wrong_from step rows more (r + 1)
  unfolding wrong_from row_step
  wrong_go [] more r h e = absurd (none-ne-some more e)
  wrong_go (item ∷ items) more r h e =
      by_option (step item (left rows r) (right rows r))
      (λ z. absurd (none-ne-some more (rw z at e)))
      (λ i z.
      let q : i ++ items ≡ more = some-injective (i ++ items) more (rw z at e) in
      rw (turn r rows.size h, read_go step rows (rows.size - (r + 1)) r item items i z, q))

  -- where the rows end, nothing is to come, or the row past them is missing
  pub wrong_none : (r : ℕ) → r ≡ rows.size → wrong_from step rows [] r ≡ none
  unfolding wrong_from complete
  wrong_none r e = rw (read_none step rows (rows.size - r) r, eq-eqb r rows.size e, complete)

  pub wrong_end : (item : Item) (items : List Item) (r : ℕ) → r ≡ rows.size → wrong_from step rows (item ∷ items) r ≡ some r
  unfolding wrong_from complete
  wrong_end item items r e = let z : rows.size - r ≡ zero = omega arith in rw (z, read_end step rows item items r)
