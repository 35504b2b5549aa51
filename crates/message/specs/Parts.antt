-- What the code of this crate answers, by the definitions of the model: refusals 1 and 2 of a message, or the sizes of
-- its whole parts.
use Rattle.std.specs.Prelude.{ℕ, List, Result, Ok, Err}
use Rattle.std.proofs.Math.Option.{some, none}
use Rattle.model.specs.declared.Sizes.{Sizes}
use Rattle.model.specs.declared.Verdict.{Verdict}
use Rattle.model.specs.Words.{words}
use Rattle.model.specs.Verdict.{Check}
use Rattle.model.specs.Message.{sizes, parts_check}
use Rattle.model.specs.Limits.{present}

unfoldable pub answered : Check → Sizes → Result Sizes Verdict
answered none s = Ok s
answered (some v) s = Err v

-- the answer for any bytes
unfoldable pub parts_in : List ℕ → Result Sizes Verdict
parts_in bytes = answered (parts_check present bytes) (sizes (words bytes))
