use Rattle.stated.proofs.Dispatch.{here_lacks, here_kept, here_lost}
use Rattle.stated.proofs.states.branches_here.Goals as goal

pub returns-then-k-eq-LACKS : goal.returns-then-k-eq-LACKS
returns-then-k-eq-LACKS c = here_lacks _ _ _ _ _ c.if-k-eq-LACKS.true

pub bodies_closed-requires : goal.bodies_closed-requires
bodies_closed-requires c = record { layout_ready = c.requires.layout_ready; i_lt_states = c.requires.i_lt_states }

pub returns-then-bodies_closed : goal.returns-then-bodies_closed
returns-then-bodies_closed c = here_kept _ _ _ _ _ _ c.bodies_closed.ensures c.if-bodies_closed.true c.if-k-eq-LACKS.false

pub returns-else-bodies_closed : goal.returns-else-bodies_closed
returns-else-bodies_closed c = here_lost _ _ _ _ _ _ c.bodies_closed.ensures c.if-bodies_closed.false
