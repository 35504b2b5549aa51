use mathlib.Core.Path.{◌∙◌, ap}
use Rattle.model.specs.Tables.{tables, onward, state_at, state_index_of}
use Rattle.plain_rules.proofs.behind.Goals as goal

pub returns : goal.returns
returns c = c.onto.ensures ∙ ap (λ e. state_index_of (tables c.args.ws.now c.args.s) (onward (state_at (tables c.args.ws.now c.args.s) c.args.i) e)) c.rest-e.ensures
