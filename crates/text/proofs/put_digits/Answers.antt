use borrow.Author.Rules.{rules}
use Rattle.text.proofs.Digits.{spelled_none, spelled_more, spelled_all}
use Rattle.text.proofs.put_digits.Goals as goal

pub loop-i-init : goal.loop-i-init
loop-i-init c = spelled_none _ _ _ _ _

pub loop-i-preserved : goal.loop-i-preserved
loop-i-preserved c = spelled_more _ _ _ _ _ _ _ _ _ c.loop-i.invariant (search rules) c.digit_of.ensures

pub returns-clause-out_after : goal.returns-clause-out_after
returns-clause-out_after c = spelled_all _ _ _ _ _ _ _ _ c.loop-i.invariant (search rules)
