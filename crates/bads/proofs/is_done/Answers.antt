use mathlib.Core.Path.{ap}
use Rattle.bads.specs.Stacks.{stack}
use Rattle.bads.proofs.Parts.{done_bads, not_done}
use Rattle.bads.proofs.is_done.Goals as goal

pub returns-in-Bads : goal.returns-in-Bads
returns-in-Bads c = done_bads _ c.in-Bads.k c.in-Bads.is

pub returns-in-Subject : goal.returns-in-Subject
unfolding stack
returns-in-Subject c = not_done c.args.expected _ _ (ap stack c.in-Subject.is)

pub returns-in-Minimum : goal.returns-in-Minimum
unfolding stack
returns-in-Minimum c = not_done c.args.expected _ _ (ap stack c.in-Minimum.is)

pub returns-in-Detail : goal.returns-in-Detail
unfolding stack
returns-in-Detail c = not_done c.args.expected _ _ (ap stack c.in-Detail.is)

pub returns-in-Further : goal.returns-in-Further
unfolding stack
returns-in-Further c = not_done c.args.expected _ _ (ap stack c.in-Further.is)
