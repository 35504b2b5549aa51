-- Rows that are one item so many times: where each begins.
use Prim.Native.Nat.{ℕ, suc, ◌+◌, ◌-◌, ◌≤◌, ◌<◌}
use native.Mathlib.Omega.{arith}
use mathlib.Core.Path.{◌≡◌, ◌∙◌}
use mathlib.Core.List.{[], ◌∷◌}
use mathlib.Core.Option.{none}
use lib.ListN.{replicate, replicate-append-replicate}
use Rattle.model.specs.Words.{Columns}
use Rattle.model.specs.Reader.{past, Grammar, read, after, first_wrong_of}
use Rattle.model.proofs.Reader.{read_none, read_range, read_append, Halfway, read_split, after_past, first_wrong_none}

module _ {Item : Type 0} (step : Grammar Item) (rows : Columns) (item : Item) (count : ℕ) where
  -- k of them end before row e, and the others stand from there to the end
  pub record Walked (k e : ℕ) : Type 0 where
    pub so_far : read step rows rows.size (replicate k item) 0 ≡ past e
    pub ahead : read step rows (rows.size - e) (replicate (count - k) item) e ≡ past rows.size

  -- the row after the one that stands at row e
  abbrev pub next : ℕ → ℕ
  next e = after step rows (item ∷ []) e

  pub walked_start : first_wrong_of step rows (replicate count item) ≡ none → Walked 0 0
  walked_start h =
      record {
        so_far = read_none step rows rows.size 0;
        ahead =
            let z : rows.size - 0 ≡ rows.size = omega arith in
            let y : count - 0 ≡ count = omega arith in
            rw (z, y) (first_wrong_none step rows (replicate count item) h);
      }

  module _ (k e : ℕ) (w : Walked k e) where
    pub walked_row : after step rows (replicate k item) 0 ≡ e
    walked_row = let z : rows.size - 0 ≡ rows.size = omega arith in after_past step rows 0 e (replicate k item) (rw z w.so_far)

    pub walked_inside : e ≤ rows.size
    walked_inside = let r = read_range step rows rows.size 0 e (replicate k item) w.so_far in omega arith

    module _ (below : k < count) where
      halfway : Halfway step rows (rows.size - e) e rows.size (item ∷ []) (replicate (count - (k + 1)) item)
      halfway =
          let t : count - k ≡ suc (count - (k + 1)) = omega arith in
          read_split step rows (rows.size - e) e rows.size (item ∷ []) (replicate (count - (k + 1)) item) (rw t at w.ahead)

      ends : next e ≡ halfway.at
      ends = after_past step rows e halfway.at (item ∷ []) halfway.first

      pub walked_stands : read step rows (rows.size - e) (item ∷ []) e ≡ past (next e)
      walked_stands = rw ends halfway.first

      pub walked_next : Walked (k + 1) (next e)
      walked_next =
          record {
            so_far =
                let z : rows.size - (e - 0) ≡ rows.size - e = omega arith in
                rw (← replicate-append-replicate k 1 item, ends)
                (read_append step rows rows.size 0 e (replicate k item) (item ∷ []) w.so_far ∙ rw z halfway.first);
            ahead =
                let r = read_range step rows (rows.size - e) e halfway.at (item ∷ []) halfway.first in
                let z : rows.size - halfway.at ≡ rows.size - e - (halfway.at - e) = omega arith in
                rw (ends, z) halfway.second;
          }
