use Rattle.stated.proofs.Dispatch.{flag_so, flag_not}
use Rattle.stated.proofs.states.unless.Goals as goal

pub returns-then-b : goal.returns-then-b
returns-then-b c = flag_so _ c.if-b.true

pub returns-else-b : goal.returns-else-b
returns-else-b c = flag_not _ c.if-b.false
