-- The part of the weights, and its lines in form.
use Rattle.std.specs.Prelude.{ℕ, ◌+◌, ◌≡◌, List}
use Rattle.std.proofs.Math.Option.{none}
use Rattle.model.specs.declared.Sizes.{Sizes}
use Rattle.model.specs.Message.{weights_offset}
use Rattle.model.specs.Reader.{first_wrong_of}
use Rattle.model.specs.Weights.{weight_entries, weight_step, lines_ahead}
use Rattle.ceilings_form.specs.declared.entries.Part.{Part}

-- the part of the weights, behind its two sizes
unfoldable pub weights_part_of : Sizes → Part
weights_part_of s = record { at = weights_offset s + 2; size = s.weights }

-- refusal 16 refuses nothing: the entries are the lines and nothing else
abbrev pub WeightsInForm : List ℕ → Sizes → ℕ → Type 0
WeightsInForm ws s n = first_wrong_of (weight_step n) (weight_entries ws s) (lines_ahead s.lines) ≡ none
