use Rattle.masks.proofs.Masks.{first_a, first_b, first_c, first_d}
use borrow.Author.Rules.{rules}
use Rattle.masks.proofs.first_set.Goals as goal

pub returns-then-x-ne0 : goal.returns-then-x-ne0
returns-then-x-ne0 c = first_a _ _ (search rules) c.if-x-ne0.true c.low_bit.ensures.0

pub returns-then-x-ne0-2 : goal.returns-then-x-ne0-2
returns-then-x-ne0-2 c = first_b _ _ c.if-x-ne0.false (search rules) c.if-x-ne0-2.true c.low_bit-then-x-ne0-2.ensures.0

pub returns-then-x-ne0-3 : goal.returns-then-x-ne0-3
returns-then-x-ne0-3 c = first_c _ _ (search rules) (search rules) (search rules) (search rules) c.low_bit-then-x-ne0-3.ensures.0

pub returns : goal.returns
returns c = first_d _ _ (search rules) (search rules) (search rules) c.low_bit-2.ensures.0
