-- Whether a verdict refuses.
use Rattle.std.specs.Prelude.{Bool, eqb}
use Rattle.model.specs.declared.Verdict.{Verdict}
use Rattle.model.specs.Verdict.{number}

-- nothing was refused
unfoldable pub is_safe_of : Verdict → Bool
is_safe_of v = eqb (number v) 0
