use mathlib.Core.List.{[]}
use Rattle.sizes.proofs.Limits.{outside_none}
use Rattle.sizes.proofs.program_outside.Goals as goal

pub returns : goal.returns
returns c = c.outside.ensures.0 _ (c.outside-names.ensures.0 _ (c.outside-constructors.ensures.0 _ (c.outside-functions.ensures.0 [] outside_none)))
