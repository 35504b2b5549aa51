use Rattle.lists.proofs.Rising.{first_told, second_told, third_told}
use Rattle.lists.proofs.under.Goals as goal

pub returns-then-x-a : goal.returns-then-x-a
returns-then-x-a c = first_told _ _ _ _ _ _ _ 0 0 c.left-x.ensures c.if-x-a.true

pub returns-then-y-b : goal.returns-then-y-b
returns-then-y-b c = second_told _ _ _ _ _ _ _ _ 0 c.left-x.ensures c.if-x-a.false c.right-y.ensures c.if-y-b.true

pub returns : goal.returns
returns c = third_told _ _ _ _ _ _ _ _ _ c.left-x.ensures c.if-x-a.false c.right-y.ensures c.if-y-b.false c.third.ensures
