use mathlib.Core.Path.{refl, sym, ◌∙◌}
use borrow.Author.Tests.{lt-ltb, le-ltb}
use Rattle.model.specs.Rows.{program, is_name}
use Rattle.model.proofs.Logic.{and_first, and_second}
use Rattle.evidence.specs.Ranges.{legal_left, legal_rest}
use Rattle.evidence.specs.declared.entries.Table.TheVariants.{Flow, Mail, States}
use Rattle.evidence.proofs.Lists.{legal_pass, legal_fail}
use Rattle.evidence.proofs.entries.in_range.Goals as goal

pub returns-then-a-s : goal.returns-then-a-s
unfolding legal_left legal_rest is_name program
returns-then-a-s c = legal_pass _ _ Flow c.in-Flow.is _ _ _ _ (lt-ltb _ _ c.if-a-s.true) c.is_value.ensures

pub returns-else-a-s : goal.returns-else-a-s
unfolding legal_left legal_rest is_name program
returns-else-a-s c = legal_fail _ _ Flow c.in-Flow.is _ _ _ _ refl (le-ltb _ _ c.if-a-s.false)

pub returns-then-is_class : goal.returns-then-is_class
unfolding legal_left legal_rest
returns-then-is_class c = legal_pass _ _ Mail c.in-Mail.is _ _ _ _ (sym c.is_class.ensures ∙ c.if-is_class.true) c.is_value-then-is_class.ensures

pub returns-else-is_class : goal.returns-else-is_class
unfolding legal_left legal_rest
returns-else-is_class c = legal_fail _ _ Mail c.in-Mail.is _ _ _ _ c.is_class.ensures (sym c.is_class.ensures ∙ c.if-is_class.false)

pub returns-then-is_head : goal.returns-then-is_head
unfolding legal_left legal_rest
returns-then-is_head c =
    legal_pass _ _ States c.in-States.is _ _ _ _ (sym c.is_class-in-States.ensures ∙ c.if-is_class-2.true)
    (c.is_return.ensures ∙ and_second _ _ (sym c.is_head.ensures ∙ c.if-is_head.true))

pub returns-else-is_head : goal.returns-else-is_head
unfolding legal_left legal_rest
returns-else-is_head c =
    legal_pass _ _ States c.in-States.is _ _ _ _ (sym c.is_class-in-States.ensures ∙ c.if-is_class-2.true)
    (c.is_head.ensures ∙ and_first _ _ (sym c.is_head.ensures ∙ c.if-is_head.false))

pub returns-else-is_class-2 : goal.returns-else-is_class-2
unfolding legal_left legal_rest
returns-else-is_class-2 c = legal_fail _ _ States c.in-States.is _ _ _ _ c.is_class-in-States.ensures (sym c.is_class-in-States.ensures ∙ c.if-is_class-2.false)
