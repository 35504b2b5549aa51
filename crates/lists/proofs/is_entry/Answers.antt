use Rattle.lists.proofs.Rising.{first_unlike, second_unlike, third_like}
use Rattle.lists.proofs.is_entry.Goals as goal

pub returns-then-left-a : goal.returns-then-left-a
returns-then-left-a c = first_unlike _ _ _ _ _ _ _ 0 0 c.left.ensures c.if-left-a.true

pub returns-then-right-b : goal.returns-then-right-b
returns-then-right-b c = second_unlike _ _ _ _ _ _ _ _ 0 c.left.ensures c.if-left-a.false c.right.ensures c.if-right-b.true

pub returns : goal.returns
returns c = third_like _ _ _ _ _ _ _ _ _ c.left.ensures c.if-left-a.false c.right.ensures c.if-right-b.false c.third.ensures
