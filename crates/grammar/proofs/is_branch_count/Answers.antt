use borrow.Author.Tests.{le-leb, lt-leb}
use Rattle.model.specs.Rows.{is_branch_count_of}
use Rattle.grammar.proofs.is_branch_count.Goals as goal

pub returns-then-n-ge1 : goal.returns-then-n-ge1
unfolding is_branch_count_of
returns-then-n-ge1 c = rw (le-leb 1 c.args.n c.if-n-ge1.true)

pub returns-else-n-ge1 : goal.returns-else-n-ge1
unfolding is_branch_count_of
returns-else-n-ge1 c = rw (lt-leb 1 c.args.n c.if-n-ge1.false)
