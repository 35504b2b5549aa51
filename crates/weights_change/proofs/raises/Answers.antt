use mathlib.Core.Path.{◌∙◌, ap}
use lib.IntN.{pos}
use lib.Signed.{lt_z}
use Rattle.model.specs.Weights.{above_zero}
use Rattle.weights_change.proofs.Weighing.{zero_below, read_back}
use Rattle.weights_change.proofs.raises.Goals as goal

pub returns : goal.returns
returns c = ap (lt_z (pos 0)) (read_back c.change.result c.change.type_inv) ∙ (zero_below _ ∙ ap above_zero c.change.ensures)
