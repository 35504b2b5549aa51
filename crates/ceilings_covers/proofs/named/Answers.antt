use mathlib.Core.Path.{refl}
use Rattle.ceilings_covers.specs.Covers.{named}
use Rattle.ceilings_covers.proofs.named.Goals as goal

pub returns : goal.returns
unfolding named
returns c = refl
