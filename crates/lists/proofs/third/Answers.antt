use Rattle.lists.proofs.Facts.{no_thirds, some_thirds}
use Rattle.lists.proofs.third.Goals as goal

pub returns-then-l-eq0 : goal.returns-then-l-eq0
returns-then-l-eq0 c = let a = c.args in rw (no_thirds a.ws.now a.l c.if-l-eq0.true)

pub returns-else-l-eq0 : goal.returns-else-l-eq0
returns-else-l-eq0 c = let a = c.args in rw (some_thirds a.ws.now a.l c.if-l-eq0.false) c.column.ensures
