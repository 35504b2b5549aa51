use mathlib.Core.Path.{◌∙◌, ap₂}
use lib.IntN.{sub_ℕ}
use Rattle.model.specs.Weights.{change}
use Rattle.weights_change.proofs.Weighing.{read_back}
use Rattle.weights_change.proofs.change.Goals as goal

pub returns : goal.returns
unfolding change
returns c = read_back c.difference.result c.difference.type_inv ∙ (c.difference.ensures ∙ ap₂ sub_ℕ c.weight_put-put.ensures.value c.weight_taken-taken.ensures.value)
