use mathlib.Core.Path.{◌∙◌}
use Rattle.weights_change.proofs.Weighing.{puts}
use Rattle.weights_change.proofs.weight_put.Goals as goal

pub returns : goal.returns
returns c = record { value = c.weight_with.ensures.value ∙ puts _ _ c.requires.kind_bound; upper_bound = c.weight_with.ensures.upper_bound }
