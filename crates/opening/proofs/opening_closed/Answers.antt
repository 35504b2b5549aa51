use Rattle.opening.proofs.Openings.{openings_begin, openings_next, openings_fail, openings_over}
use borrow.Author.Rules.{rules}
use Rattle.opening.proofs.opening_closed.Goals as goal

pub loop-r-init : goal.loop-r-init
loop-r-init c = openings_begin _ _

pub returns-then-not-opening_row : goal.returns-then-not-opening_row
returns-then-not-opening_row c = openings_fail _ _ _ _ (search rules) c.opening_row.ensures c.loop-r.invariant c.if-not-opening_row.true

pub loop-r-preserved : goal.loop-r-preserved
loop-r-preserved c = openings_next _ _ _ _ (search rules) c.opening_row.ensures c.loop-r.invariant c.if-not-opening_row.false

pub returns : goal.returns
returns c = openings_over _ _ _ _ _ (search rules) c.start-first.ensures c.state_index.ensures c.loop-r.invariant
