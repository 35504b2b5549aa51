-- The table of weights: that of ceilings, filled from lines in form.
use Prim.Native.Nat.{ℕ, ◌<◌}
use mathlib.Core.Path.{sym, ◌∙◌}
use mathlib.Core.List.{List}
use Rattle.model.specs.declared.Sizes.{Sizes}
use Rattle.model.specs.Weights.{weight_entries, lines_of}
use Rattle.model.proofs.Weighed.Form.{weight_small}
use Rattle.bits.specs.Bits.{Row}
use Rattle.ceilings_form.specs.Limits.{StartsTable}
use Rattle.ceilings.specs.Table.{BoundsTable}
use Rattle.ceilings.proofs.Cells.{row_in}
use Rattle.weights_form.specs.Form.{WeightsInForm}
use Rattle.weights_form.proofs.Lines.{line_begins}
use Rattle.weights.specs.Table.{WeightsTable, BeginsTable}

module _ (ws : List ℕ) (s : Sizes) (n : ℕ) (form : WeightsInForm ws s n) where
  pub weights_table : (weights : List ℕ) → BoundsTable n (weight_entries ws s) s.lines weights → WeightsTable (lines_of ws s n) weights
  unfolding lines_of
  weights_table weights b =
      record {
        room = b.room;
        weight = λ k x h l. rw (line_begins ws s n form k) (b.number k x h l);
        small = λ k x h l. weight_small ws s n form k x;
      }

  pub begins_table : (starts : List ℕ) → StartsTable n (weight_entries ws s) s.lines starts → BeginsTable n (weight_entries ws s) s.lines starts
  begins_table starts b = record { room = b.room; start = λ k h. b.start k h ∙ sym (line_begins ws s n form k) }

-- the weights of a counter lie in the table
pub row_at : (ws : List ℕ) (s : Sizes) (n : ℕ) (weights : List ℕ) → WeightsTable (lines_of ws s n) weights → (x : ℕ) → x < n → Row weights s.lines x
unfolding lines_of
row_at ws s n weights t x h = row_in weights n s.lines x h t.room
