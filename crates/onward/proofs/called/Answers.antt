use mathlib.Core.Path.{◌∙◌}
use Rattle.onward.proofs.called.Goals as goal

pub returns : goal.returns
returns c = c.state_near.ensures ∙ rw (c.state_class-c.ensures, c.state_location-call.ensures)
