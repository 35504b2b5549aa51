use mathlib.Core.Path.{sym, ◌∙◌}
use Rattle.model.specs.Rows.{program}
use Rattle.model.specs.Letters.{head_count}
use Rattle.bads.proofs.Parts.{subject_head, subject_no_head, subject_letter, subject_no_letter, no_subject}
use Rattle.bads.proofs.subject.Goals as goal

pub returns-then-is_head : goal.returns-then-is_head
returns-then-is_head c = subject_head _ _ _ _ c.in-41.is (sym c.is_head.ensures ∙ c.if-is_head.true)

pub returns-then-is_number : goal.returns-then-is_number
unfolding program head_count
returns-then-is_number c = subject_letter _ _ _ _ c.in-42.is (sym c.is_number.ensures ∙ c.if-is_number.true) _ c.letter_arity.ensures

pub returns-else-is_head : goal.returns-else-is_head
returns-else-is_head c = subject_no_head _ _ _ _ c.in-41.is (sym c.is_head.ensures ∙ c.if-is_head.false)

pub returns-else-is_number : goal.returns-else-is_number
unfolding program head_count
returns-else-is_number c = subject_no_letter _ _ _ _ c.in-42.is (sym c.is_number.ensures ∙ c.if-is_number.false)

pub returns-in_default : goal.returns-in_default
returns-in_default c = no_subject _ _ _ _ c.in_default.in_default-own.rest.0.1 c.in_default.in_default-own.rest.1
