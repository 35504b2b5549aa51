use Rattle.bads.proofs.Parts.{bads_over, bad_begins, behind_item, in_detail, heads_begin, no_heads, bad_ends, end_number, further_item}
use Rattle.bads.proofs.read_row.Goals as goal

pub returns-then-k-eq0 : goal.returns-then-k-eq0
returns-then-k-eq0 c = bads_over _ _ _ _ _ c.in-Bads.is c.if-k-eq0.true

pub returns-then-t-eq-TAG_ARGUMENT : goal.returns-then-t-eq-TAG_ARGUMENT
returns-then-t-eq-TAG_ARGUMENT c = heads_begin _ _ _ _ _ _ c.in-Minimum.is c.if-t-eq-TAG_ARGUMENT.true _ c.detail.ensures

pub returns-then-t-ne-TAG_BAD_END : goal.returns-then-t-ne-TAG_BAD_END
returns-then-t-ne-TAG_BAD_END c = further_item _ _ _ _ _ c.in-Further.is c.if-t-ne-TAG_BAD_END.true _ c.item-then-t-ne-TAG_BAD_END.ensures

pub returns-then-n-eq0 : goal.returns-then-n-eq0
returns-then-n-eq0 c = bad_ends _ _ _ _ _ c.in-Further.is c.if-t-ne-TAG_BAD_END.false c.if-n-eq0.true

pub returns-else-k-eq0 : goal.returns-else-k-eq0
returns-else-k-eq0 c = bad_begins _ _ _ _ _ c.in-Bads.is c.if-k-eq0.false _ c.item.ensures

pub returns-in-Subject : goal.returns-in-Subject
returns-in-Subject c = behind_item _ _ _ _ _ c.in-Subject.is _ c.subject.ensures

pub returns-else-t-eq-TAG_ARGUMENT : goal.returns-else-t-eq-TAG_ARGUMENT
returns-else-t-eq-TAG_ARGUMENT c = no_heads _ _ _ _ _ _ c.in-Minimum.is c.if-t-eq-TAG_ARGUMENT.false _ c.detail-in-Minimum.ensures

pub returns-in-Detail : goal.returns-in-Detail
returns-in-Detail c = in_detail _ _ _ _ _ _ c.in-Detail.is _ c.detail-in-Detail.ensures

pub returns-else-n-eq0 : goal.returns-else-n-eq0
returns-else-n-eq0 c = end_number _ _ _ _ _ c.in-Further.is c.if-t-ne-TAG_BAD_END.false c.if-n-eq0.false
