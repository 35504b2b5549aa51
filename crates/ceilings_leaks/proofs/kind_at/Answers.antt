use mathlib.Core.Path.{◌∙◌, ap}
use Rattle.model.specs.Rows.{program, tag}
use Rattle.steps.specs.Steps.{effect_kind_of}
use Rattle.ceilings_leaks.proofs.kind_at.Goals as goal

pub returns : goal.returns
returns c =
    let a = c.args in record { value = c.effect_kind.ensures.value ∙ ap effect_kind_of (c.tag.ensures ∙ ap (tag (program a.ws.now a.s)) c.state_location.ensures); upper_bound = c.effect_kind.ensures.upper_bound }
