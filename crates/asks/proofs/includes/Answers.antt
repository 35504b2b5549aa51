use Rattle.model.specs.Words.{columns}
use Rattle.model.specs.Rows.{program}
use Rattle.asks.proofs.Asking.{included}
use Rattle.asks.proofs.includes.Goals as goal

pub within-requires : goal.within-requires
unfolding program columns
within-requires c = (rw c.width.ensures (c.requires.flow_sets.of_name _ c.requires.a_lt_names.0).row, rw c.width.ensures (c.requires.flow_sets.of_name _ c.requires.a_lt_names.1).row)

pub returns : goal.returns
returns c = included _ _ c.requires.flow_sets _ _ _ _ c.width.ensures c.requires.a_lt_names.0 c.requires.a_lt_names.1 c.within.ensures
