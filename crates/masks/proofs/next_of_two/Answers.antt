use native.Mathlib.Omega.{arith}
use Rattle.masks.proofs.Masks.{two_words, first_inside, first_outside}
use borrow.Author.Rules.{rules}
use Rattle.masks.proofs.next_of_two.Goals as goal

pub returns-then-at-end : goal.returns-then-at-end
returns-then-at-end c = first_inside _ _ _ _ _ c.requires.from_le_end.0 (search rules) (λ k l. two_words _ _ _ c.word_of.ensures c.word_of-2.ensures k (omega arith)) c.next_in-at.ensures c.if-at-end.true

pub returns : goal.returns
returns c = first_outside _ _ _ _ _ c.requires.from_le_end.0 (search rules) (λ k l. two_words _ _ _ c.word_of.ensures c.word_of-2.ensures k (omega arith)) c.next_in-at.ensures c.if-at-end.false
