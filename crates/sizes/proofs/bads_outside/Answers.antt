use mathlib.Core.List.{[]}
use Rattle.sizes.proofs.Limits.{outside_none}
use Rattle.sizes.proofs.bads_outside.Goals as goal

pub returns : goal.returns
returns c = c.outside.ensures.0 _ (c.outside-badrows.ensures.0 [] outside_none)
