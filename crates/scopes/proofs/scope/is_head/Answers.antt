use borrow.Author.Tests.{le-leb, lt-leb}
use Rattle.model.specs.Rows.{is_head_of}
use Rattle.scopes.proofs.scope.is_head.Goals as goal

pub returns-then-t-ge1 : goal.returns-then-t-ge1
unfolding is_head_of
returns-then-t-ge1 c = rw (le-leb 1 c.args.t c.if-t-ge1.true)

pub returns-else-t-ge1 : goal.returns-else-t-ge1
unfolding is_head_of
returns-else-t-ge1 c = rw (lt-leb 1 c.args.t c.if-t-ge1.false)
