use Rattle.stated.proofs.Dispatch.{call_open, call_left}
use Rattle.stated.proofs.states.call_closed.Goals as goal

pub returns-then-k-ge2 : goal.returns-then-k-ge2
returns-then-k-ge2 c = call_open _ _ _ _ _ c.requires.r_value.0 c.requires.r_value.1 c.if-k-ge2.true

pub callees_here-requires : goal.callees_here-requires
callees_here-requires c = record { starts_ready = c.requires.starts_ready; r_value = c.requires.r_value.0 }

pub returns : goal.returns
returns c = call_left _ _ _ _ _ _ c.requires.r_value.0 c.requires.r_value.1 c.if-k-ge2.false c.callees_here.ensures
