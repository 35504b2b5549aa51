use mathlib.Core.Path.{◌∙◌}
use Rattle.model.specs.Tables.{state_at}
use Rattle.onward.proofs.onward.Goals as goal

pub returns : goal.returns
unfolding state_at
returns c = c.state_near.ensures ∙ rw (c.state_class-c.ensures, c.state_return-b.ensures)
