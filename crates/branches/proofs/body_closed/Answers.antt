use borrow.Author.Rules.{rules}
use Rattle.branches.proofs.Walk.{state_there, body_asked, body_free}
use Rattle.branches.proofs.body_closed.Goals as goal

pub returns-then-bits-eq1 : goal.returns-then-bits-eq1
returns-then-bits-eq1 c = body_asked _ _ _ (search rules) (state_there _ _ _ _ c.onward.ensures)

pub returns-else-bits-eq1 : goal.returns-else-bits-eq1
returns-else-bits-eq1 c = body_free _ _ (search rules)
