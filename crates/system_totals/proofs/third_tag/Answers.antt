use Rattle.model.specs.Rows.{kind}
use Rattle.system_totals.specs.Lines.{third_tag_of}
use Rattle.system_totals.proofs.Lined.{no_third}
use Rattle.system_totals.proofs.third_tag.Goals as goal

pub returns-in-5 : goal.returns-in-5
unfolding third_tag_of kind
returns-in-5 c = rw c.in-5.is

pub returns-in-6 : goal.returns-in-6
unfolding third_tag_of kind
returns-in-6 c = rw c.in-6.is

pub returns-in-9 : goal.returns-in-9
unfolding third_tag_of kind
returns-in-9 c = rw c.in-9.is

pub returns-in_default : goal.returns-in_default
returns-in_default c = no_third _ c.in_default.in_default-own.rest.0.0.1 c.in_default.in_default-own.rest.0.1 c.in_default.in_default-own.rest.1
