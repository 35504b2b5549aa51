-- The tables of the items' counters, filled row by row.
use Prim.Native.Nat.{ℕ, ◌+◌, ◌≤◌, ◌<◌}
use native.Mathlib.Decide.{ℕ_discrete}
use native.Mathlib.Omega.{arith}
use mathlib.Core.Path.{◌≡◌}
use mathlib.Core.List.{List}
use lib.ListN.{length, get_or, set}
use lib.Seq.{get_or-set_same, get_or-set_other}
use Rattle.model.specs.declared.Sizes.{Sizes}
use Rattle.model.specs.Limits.{max_counters}
use Rattle.model.specs.Rows.{program}
use Rattle.model.specs.Tables.{tables}
use Rattle.model.specs.Bads.{bad_rows}
use Rattle.model.specs.Counters.{counter_count}
use Rattle.bads_rows.specs.Items.{Range, subject_from, ItemsCounted}
use Rattle.bads_rows.proofs.Walking.{size_is}

module _ (ws : List ℕ) (s : Sizes) where
  -- the counters of the item at row r
  abbrev pub Own : ℕ → ℕ → ℕ → Type 0
  Own r from to = Range (program ws s) (tables ws s) (subject_from (bad_rows ws s) r) from to

  -- a counter is a word
  pub own_low : counter_count (program ws s) (tables ws s) ≤ max_counters → (r from to : ℕ) → Own r from to → (from < 65536) × (to < 65536)
  own_low small r from to range = (omega (arith, range.order, range.upto), omega (arith, range.upto))

  -- the rows before r are filled in
  abbrev pub Filled : ℕ → List ℕ → List ℕ → Type 0
  Filled r froms tos = (k : ℕ) → k < r → Own k (get_or froms k 0) (get_or tos k 0)

  pub none_filled : (froms tos : List ℕ) → Filled 0 froms tos
  none_filled froms tos k l = absurd (omega arith)

  pub more_filled : (r from to : ℕ) (froms tos : List ℕ) → Filled r froms tos → r < length froms → r < length tos → Own r from to → Filled (r + 1) (set froms r from) (set tos r to)
  more_filled r from to froms tos f a b own k l = elim (ℕ_discrete k r) [
    | yes e ↦ rw (e, get_or-set_same froms r from 0 a, get_or-set_same tos r to 0 b) own
    | no e ↦ rw (get_or-set_other froms r k from 0 e, get_or-set_other tos r k to 0 e) (f k (omega arith))
  ]

  pub all_filled : (r : ℕ) (froms tos : List ℕ) → r ≡ s.badrows → Filled r froms tos → s.badrows ≤ length froms → s.badrows ≤ length tos → ItemsCounted (program ws s) (tables ws s) (bad_rows ws s) froms tos
  all_filled r froms tos e f a b =
      let z = size_is ws s in
      record { from_room = omega arith; to_room = omega arith; range = λ k l. f k (omega arith) }
