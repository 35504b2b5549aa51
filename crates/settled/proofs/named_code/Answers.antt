use native.Mathlib.Omega.{arith}
use Rattle.model.specs.Words.{columns}
use Rattle.model.specs.Rows.{program}
use Rattle.values.proofs.Gathered.{width_above}
use Rattle.asks.proofs.Rows.{row_below}
use Rattle.asks.proofs.Asking.{held, there_yes, there_no}
use Rattle.settled.proofs.Settling.{bound_name, tag_some, there_told}
use Rattle.settled.proofs.named_code.Goals as goal

pub num-name-requires : goal.num-name-requires
num-name-requires c = c.requires.flow_ready.ready.whole

pub holds-requires : goal.holds-requires
unfolding program columns
holds-requires c = record {
  v_bound = rw c.width.ensures (width_above _ _ (omega (arith, (row_below c.requires.flow_ready.ready c.args.r (tag_some c.requires.flow_ready.ready _ c.requires.fact)).0)));
  row = rw c.width.ensures (c.requires.flow_ready.names.of_name _ (bound_name c.requires.flow_ready.ready _ c.requires.fact _ c.num-name.ensures)).row;
}

pub returns-then-holds : goal.returns-then-holds
returns-then-holds c = there_told _ _ _ _ _ _ c.num-name.ensures (held _ _ c.requires.flow_ready.names _ _ _ _ c.width.ensures (bound_name c.requires.flow_ready.ready _ c.requires.fact _ c.num-name.ensures) (row_below c.requires.flow_ready.ready c.args.r (tag_some c.requires.flow_ready.ready _ c.requires.fact)).0 c.holds.ensures) (there_yes _ c.if-holds.true)

pub returns-else-holds : goal.returns-else-holds
returns-else-holds c = there_told _ _ _ _ _ _ c.num-name.ensures (held _ _ c.requires.flow_ready.names _ _ _ _ c.width.ensures (bound_name c.requires.flow_ready.ready _ c.requires.fact _ c.num-name.ensures) (row_below c.requires.flow_ready.ready c.args.r (tag_some c.requires.flow_ready.ready _ c.requires.fact)).0 c.holds.ensures) (there_no _ c.if-holds.false)
