use Rattle.std.proofs.Common.{refl, rules}
use Rattle.corpus.proofs.Marking.{marked_none, marked_more, marked_all}
use Rattle.corpus.proofs.cases.fill_marks.Goals as goal

pub loop-i-init : goal.loop-i-init
loop-i-init c = marked_none _

pub loop-i-preserved : goal.loop-i-preserved
loop-i-preserved c = marked_more _ _ _ _ c.loop-i.invariant (search rules) refl

pub returns : goal.returns
returns c = marked_all _ _ _ c.loop-i.invariant (search rules)
