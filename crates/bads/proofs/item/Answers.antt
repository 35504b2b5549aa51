use mathlib.Core.Path.{sym, ◌∙◌}
use Rattle.bads.proofs.Parts.{item_class, item_no_class, no_item}
use Rattle.bads.proofs.item.Goals as goal
use Rattle.bads.proofs.item.Goals.{else-t-eq-TAG_CLASS-via-then-t-eq-TAG_CLASS+else-is_class, else-t-eq-TAG_CLASS-via-else-t-eq-TAG_CLASS}

pub returns-then-is_class : goal.returns-then-is_class
returns-then-is_class c = item_class _ _ _ _ c.if-t-eq-TAG_CLASS.true (sym c.is_class.ensures ∙ c.if-is_class.true)

pub returns-else-t-eq-TAG_CLASS : goal.returns-else-t-eq-TAG_CLASS
returns-else-t-eq-TAG_CLASS c = elim c.else-t-eq-TAG_CLASS.branch [
  | else-t-eq-TAG_CLASS-via-then-t-eq-TAG_CLASS+else-is_class w ↦ item_no_class _ _ _ _ w.if-t-eq-TAG_CLASS.true (sym w.is_class.ensures ∙ w.if-is_class.false)
  | else-t-eq-TAG_CLASS-via-else-t-eq-TAG_CLASS w ↦ no_item _ _ _ _ w.if-t-eq-TAG_CLASS.false
]
