use Rattle.stages.proofs.Laying.{start_told}
use Rattle.stages.proofs.start_counter.Goals as goal

pub returns : goal.returns
returns c = start_told _ _ _ _ c.start-first.ensures c.state_index.ensures
