use mathlib.Core.Bool.{not}
use mathlib.Core.Path.{ap}
use native.Mathlib.Omega.{arith}
use Rattle.model.specs.Words.{columns}
use Rattle.model.specs.Rows.{program}
use Rattle.values.proofs.Names.{class_upto}
use Rattle.values.proofs.Gathered.{width_above}
use Rattle.stated.proofs.Giving.{class_some}
use Rattle.stated.proofs.Dispatch.{self_name, self_lacks, self_told, held_class}
use Rattle.stated.proofs.states.self_closed.Goals as goal

pub num-name-requires : goal.num-name-requires
num-name-requires c = c.requires.layout_ready.ready.whole

pub holds-requires : goal.holds-requires
unfolding program columns
holds-requires c = record {
  v_bound = rw c.width.ensures (width_above _ _ (class_upto c.requires.layout_ready.ready _ (class_some c.requires.layout_ready.ready _ _ c.requires.flow_sets.1.0 c.state_class-c.ensures)));
  row = rw c.width.ensures (c.requires.flow_sets.0.of_name _ (self_name c.requires.layout_ready.ready _ _ c.requires.flow_sets.1.1 c.num-name.ensures)).row;
}

pub returns-then-not-holds : goal.returns-then-not-holds
returns-then-not-holds c = self_lacks _ _ _ _ _ _ _ c.state_class-c.ensures c.num-name.ensures (held_class c.requires.layout_ready.ready c.requires.flow_sets.0 _ _ _ _ c.width.ensures (self_name c.requires.layout_ready.ready _ _ c.requires.flow_sets.1.1 c.num-name.ensures) (class_some c.requires.layout_ready.ready _ _ c.requires.flow_sets.1.0 c.state_class-c.ensures) c.holds.ensures) (ap not c.if-not-holds.true)

pub rest_closed-requires : goal.rest_closed-requires
rest_closed-requires c = record { layout_ready = c.requires.layout_ready; i_lt_states = (c.requires.flow_sets.1.0, (omega (arith, c.requires.flow_sets.1.1), omega (arith, c.requires.flow_sets.1.1))) }

pub returns : goal.returns
returns c = self_told _ _ _ _ _ _ _ c.state_class-c.ensures c.num-name.ensures (held_class c.requires.layout_ready.ready c.requires.flow_sets.0 _ _ _ _ c.width.ensures (self_name c.requires.layout_ready.ready _ _ c.requires.flow_sets.1.1 c.num-name.ensures) (class_some c.requires.layout_ready.ready _ _ c.requires.flow_sets.1.0 c.state_class-c.ensures) c.holds.ensures) _ (ap not c.if-not-holds.false) c.rest_closed.ensures
