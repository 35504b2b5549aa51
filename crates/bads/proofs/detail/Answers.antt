use mathlib.Core.Path.{sym, ◌∙◌}
use Rattle.model.specs.Rows.{program}
use Rattle.model.specs.Letters.{head_count}
use Rattle.bads.proofs.Parts.{minimum_fits, minimum_zero, no_minimum, does_head_fit, head_high, no_head}
use Rattle.bads.proofs.detail.Goals as goal
use Rattle.bads.proofs.detail.Goals.{else-t-eq-TAG_MINIMUM-via-then-t-eq-TAG_MINIMUM+else-n-ge1, else-t-eq-TAG_MINIMUM-via-else-t-eq-TAG_MINIMUM}
use Rattle.bads.proofs.detail.Goals.{else-t-eq-TAG_ARGUMENT-via-then-t-eq-TAG_ARGUMENT+else-is_number, else-t-eq-TAG_ARGUMENT-via-else-t-eq-TAG_ARGUMENT}

pub returns-then-n-ge1 : goal.returns-then-n-ge1
returns-then-n-ge1 c = minimum_fits _ _ _ _ _ c.if-heads-eq0.true c.if-t-eq-TAG_MINIMUM.true c.if-n-ge1.true

pub returns-then-heads-eq0 : goal.returns-then-heads-eq0
returns-then-heads-eq0 c = elim c.else-t-eq-TAG_MINIMUM.branch [
  | else-t-eq-TAG_MINIMUM-via-then-t-eq-TAG_MINIMUM+else-n-ge1 w ↦ minimum_zero _ _ _ _ _ c.if-heads-eq0.true w.if-t-eq-TAG_MINIMUM.true w.if-n-ge1.false
  | else-t-eq-TAG_MINIMUM-via-else-t-eq-TAG_MINIMUM w ↦ no_minimum _ _ _ _ _ c.if-heads-eq0.true w.if-t-eq-TAG_MINIMUM.false
]

pub returns-then-is_number : goal.returns-then-is_number
unfolding program head_count
returns-then-is_number c = does_head_fit _ _ _ _ _ c.if-heads-eq0.false c.if-t-eq-TAG_ARGUMENT.true (sym c.is_number.ensures ∙ c.if-is_number.true)

pub returns : goal.returns
unfolding program head_count
returns c = elim c.else-t-eq-TAG_ARGUMENT.branch [
  | else-t-eq-TAG_ARGUMENT-via-then-t-eq-TAG_ARGUMENT+else-is_number w ↦ head_high _ _ _ _ _ c.if-heads-eq0.false w.if-t-eq-TAG_ARGUMENT.true (sym w.is_number.ensures ∙ w.if-is_number.false)
  | else-t-eq-TAG_ARGUMENT-via-else-t-eq-TAG_ARGUMENT w ↦ no_head _ _ _ _ _ c.if-heads-eq0.false w.if-t-eq-TAG_ARGUMENT.false
]
