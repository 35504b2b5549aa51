use Rattle.values.proofs.Names.{set_start, set_spawn}
use Rattle.values.proofs.mail_set.Goals as goal

pub returns-then-c-s : goal.returns-then-c-s
returns-then-c-s c = set_start _ _ _ c.if-c-s.true

pub returns-else-c-s : goal.returns-else-c-s
returns-else-c-s c = set_spawn _ _ _ _ c.if-c-s.false c.num.ensures
