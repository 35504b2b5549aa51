use Rattle.asks.proofs.Rows.{row_below}
use Rattle.stated.proofs.Giving.{head_some}
use Rattle.closure.proofs.settled_bits.Goals as goal

pub code_at-k-requires : goal.code_at-k-requires
code_at-k-requires c = record { closure_ready = c.requires.closure_ready; codes = (c.requires.codes.0, (row_below c.requires.closure_ready.ready _ (head_some c.requires.closure_ready.ready _ _ c.requires.codes.1 c.state_location-r.ensures).0).0) }

pub state_bits-requires : goal.state_bits-requires
state_bits-requires c = record { closure_ready = c.requires.closure_ready; state_asked = record { low = c.requires.codes.1; location = c.state_location-r.ensures; settled = c.code_at-k.ensures.settled } }

pub returns : goal.returns
returns c = record { stated = c.state_bits.ensures; codes_2 = c.code_at-k.ensures.codes_2 }
