use mathlib.Core.Path.{refl}
use Rattle.lists.proofs.Rising.{first_told, second_told, third_told}
use Rattle.evidence.proofs.Lists.{ascends_first, ascends_later}
use Rattle.evidence.proofs.entries.ascends.Goals as goal

pub returns-then-i-eq0 : goal.returns-then-i-eq0
returns-then-i-eq0 c = ascends_first _ _ _ c.if-i-eq0.true

pub returns-then-x-a : goal.returns-then-x-a
returns-then-x-a c =
    ascends_later _ _ _ _ _ _ _ c.if-i-eq0.false c.left-a.ensures refl refl
    (first_told _ _ _ _ _ _ _ 0 0 c.left-x.ensures c.if-x-a.true)

pub returns-then-y-b : goal.returns-then-y-b
returns-then-y-b c =
    ascends_later _ _ _ _ _ _ _ c.if-i-eq0.false c.left-a.ensures c.right-b.ensures refl
    (second_told _ _ _ _ _ _ _ _ 0 c.left-x.ensures c.if-x-a.false c.right-y.ensures c.if-y-b.true)

pub returns : goal.returns
returns c =
    ascends_later _ _ _ _ _ _ _ c.if-i-eq0.false c.left-a.ensures c.right-b.ensures c.third-2.ensures
    (third_told _ _ _ _ _ _ _ _ _ c.left-x.ensures c.if-x-a.false c.right-y.ensures c.if-y-b.false c.third.ensures)
