-- The ceilings one after the other: where each begins, and its limits in the table.
use Prim.Native.Nat.{ℕ, ◌+◌, ◌≤◌, ◌<◌}
use native.Mathlib.Omega.{arith}
use mathlib.Core.Path.{◌≡◌, refl}
use mathlib.Core.List.{List}
use Rattle.model.specs.declared.Sizes.{Sizes}
use Rattle.model.specs.Words.{Columns, columns}
use Rattle.model.specs.Message.{weights_offset}
use Rattle.model.specs.Ceilings.{from_counter, ceiling_entries, ceiling_step, ceiling_entry}
use Rattle.model.proofs.Exact.Parts.{end_past}
use Rattle.ceilings_form.proofs.Repeated.{Walked, walked_row, walked_inside, walked_stands, walked_next}
use Rattle.ceilings_form.specs.Limits.{ceiling_end, Stands}
use Rattle.ceilings_form.specs.declared.entries.Part.{Part}
use Rattle.ceilings_form.specs.Parts.{Whole, part_entries, PartHeld, ceilings_part_of}

module _ (n : ℕ) (entries : Columns) (ceilings : ℕ) where
  -- k ceilings end before entry e, and the others stand from there to the end
  abbrev pub Walks : ℕ → ℕ → Type 0
  Walks = Walked (ceiling_step n) entries (from_counter 0) ceilings

  pub entry_of : (k e : ℕ) → Walks k e → ceiling_entry n entries k ≡ e
  unfolding ceiling_entry
  entry_of k e w = walked_row (ceiling_step n) entries (from_counter 0) ceilings k e w

  pub stands : (k e : ℕ) → Walks k e → k < ceilings → Stands n entries e
  unfolding ceiling_end
  stands k e w below = walked_stands (ceiling_step n) entries (from_counter 0) ceilings k e w below

  pub next_one : (k e : ℕ) → Walks k e → k < ceilings → Walks (k + 1) (ceiling_end n entries e)
  unfolding ceiling_end
  next_one k e w below = walked_next (ceiling_step n) entries (from_counter 0) ceilings k e w below

  pub entry_inside : (k e : ℕ) → Walks k e → e ≤ entries.size
  entry_inside k e w = walked_inside (ceiling_step n) entries (from_counter 0) ceilings k e w

-- entries are as many as the message says
pub entries_size : (ws : List ℕ) (s : Sizes) → (ceiling_entries ws s).size ≡ s.entries
unfolding ceiling_entries columns
entries_size ws s = refl

-- the part of the ceilings
pub part_of : (ws : List ℕ) (s : Sizes) → part_entries ws (ceilings_part_of s) ≡ ceiling_entries ws s
unfolding part_entries ceilings_part_of ceiling_entries
part_of ws s = refl

pub part_in : (ws : List ℕ) (s : Sizes) → Whole ws s → PartHeld ws (ceilings_part_of s)
unfolding ceilings_part_of weights_offset
part_in ws s whole = record { room = omega (arith, end_past s, whole.held); few = whole.limits.entries }

-- entries of a part are as many as it says
pub part_size : (ws : List ℕ) (part : Part) → (part_entries ws part).size ≡ part.size
unfolding part_entries columns
part_size ws part = refl
