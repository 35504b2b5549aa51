use native.Mathlib.Omega.{arith}
use mathlib.Core.Path.{◌∙◌}
use Rattle.model.specs.Words.{columns}
use Rattle.model.specs.Rows.{program}
use Rattle.model.proofs.Numbering.Counters.{tag_inside}
use Rattle.system_letters.proofs.Tables.{head_built, head_function, head_address}
use Rattle.system_letters.proofs.row_head.Goals as goal

pub overflow_add-v : goal.overflow_add-v
unfolding program columns
overflow_add-v c = let a = c.args in let e = c.tag.ensures in let z = tag_inside a.ws.now a.s a.v (omega (arith, c.in-2.is)) in record { fits = omega (arith, c.requires) }

pub returns-in-2 : goal.returns-in-2
returns-in-2 c = c.num.ensures ∙ head_built _ _ _ c.tag.ensures c.in-2.is

pub returns-in-3 : goal.returns-in-3
unfolding program
returns-in-3 c = head_function _ _ _ c.tag.ensures c.in-3.is

pub returns-in_default : goal.returns-in_default
unfolding program
returns-in_default c = head_address _ _ _ c.tag.ensures c.in_default.in_default-own.rest.0.1 c.in_default.in_default-own.rest.1
