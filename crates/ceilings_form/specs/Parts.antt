-- What the readers of the ceilings, the weights and the bads ask: the words of a message whose parts are whole.
use Rattle.std.specs.Prelude.{ℕ, ◌+◌, ◌*◌, ◌≤◌, List, length, Option, Some, None}
use Rattle.std.proofs.Math.Option as math
use Rattle.model.specs.Limits.{present, max_ceiling_entries}
use Rattle.model.specs.declared.Sizes.{Sizes}
use Rattle.model.specs.Words.{Columns, columns}
use Rattle.model.specs.Message.{ceilings_offset, end_of}
use Rattle.model.specs.Demands.{WithinLimits}
use Rattle.ceilings_form.specs.declared.entries.Part.{Part}

-- all parts are whole, and their sizes are within their limits
pub record Whole (ws : List ℕ) (s : Sizes) : Type 0 where
  pub limits : WithinLimits present s
  pub held : end_of s ≤ length ws

-- the entries of a part
unfoldable pub part_entries : List ℕ → Part → Columns
part_entries ws part = columns ws part.size part.at (part.at + part.size)

-- both columns of a part are among the words, and its entries are as many as a message may have
pub record PartHeld (ws : List ℕ) (part : Part) : Type 0 where
  pub room : part.at + 2 * part.size ≤ length ws
  pub few : part.size ≤ max_ceiling_entries

-- the part of the ceilings, behind its two sizes
unfoldable pub ceilings_part_of : Sizes → Part
ceilings_part_of s = record { at = ceilings_offset s + 2; size = s.entries }

-- the code's option, as the model has it
unfoldable pub told : Option ℕ → math.Option ℕ
told None = math.none
told (Some e) = math.some e
