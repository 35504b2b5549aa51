use mathlib.Core.Path.{sym}
use borrow.Author.Tests.{lt-ltb, le-ltb}
use Rattle.masks.specs.Masks.{has}
use Rattle.ceilings_masks.specs.Compared.{MoreAt}
use Rattle.model.proofs.Logic.{and_true}
use Rattle.ceilings_masks.proofs.more_from.Goals as goal

pub returns-then-x-low : goal.returns-then-x-low
unfolding MoreAt
returns-then-x-low c = λ k. rw (lt-ltb _ _ c.if-x-low.true) (sym (and_true (has c.args.above k)))

pub returns : goal.returns
unfolding MoreAt
returns c = λ k. rw (le-ltb _ _ c.if-x-low.false) (c.and.ensures k)
