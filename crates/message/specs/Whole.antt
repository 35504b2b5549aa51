-- A message whose parts are whole: what is so of it.
use Rattle.std.specs.Prelude.{ℕ, ◌*◌, ◌≤◌, ◌≡◌, List, length}
use Rattle.std.proofs.Math.Option.{none}
use Rattle.model.specs.Limits.{present}
use Rattle.model.specs.declared.Sizes.{Sizes}
use Rattle.model.specs.Words.{words}
use Rattle.model.specs.Message.{max_words, end_of, sizes, parts_check}
use Rattle.model.specs.Demands.{WithinLimits}
use Rattle.parts.specs.Parts.{LowSizes}

pub record WholeMessage (bytes : List ℕ) (s : Sizes) : Type 0 where
  pub passes : parts_check present bytes ≡ none
  pub of_message : s ≡ sizes (words bytes)
  pub limits : WithinLimits present s
  pub words_end : length (words bytes) ≡ end_of s
  pub bytes_end : length bytes ≡ 2 * end_of s
  pub longest : end_of s ≤ max_words
  pub placed : LowSizes s
