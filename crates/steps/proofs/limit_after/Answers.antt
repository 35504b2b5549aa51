use mathlib.Core.Path.{refl, ◌∙◌}
use Rattle.steps.specs.Steps.{limit_after_step}
use Rattle.steps.proofs.limit_after.Goals as goal

pub returns : goal.returns
unfolding limit_after_step
returns c =
    c.raise_if.ensures ∙
    (rw (c.raise_if-moved.ensures, c.adds_other.ensures, c.as_limit.ensures, c.less_if-taken.ensures, c.takes_other.ensures, c.less_if-left.ensures) refl)
