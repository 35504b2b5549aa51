use Rattle.weights_least.proofs.Items.{pass_of}
use Rattle.weights_least.proofs.is_in_pass.Goals as goal

pub returns-then-single : goal.returns-then-single
returns-then-single c = (pass_of _ _ _ c.is_single-named.ensures).0 c.if-single.true

pub returns-else-single : goal.returns-else-single
returns-else-single c = (pass_of _ _ _ c.is_single-named.ensures).1 c.if-single.false
