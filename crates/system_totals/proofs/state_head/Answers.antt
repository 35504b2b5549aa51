use mathlib.Core.Path.{◌∙◌, ap}
use Rattle.model.specs.Rows.{program, tag}
use Rattle.system_totals.proofs.state_head.Goals as goal

pub returns : goal.returns
returns c = c.tag.ensures ∙ ap (λ r. tag (program c.args.ws.now c.args.s) r) c.state_location.ensures
