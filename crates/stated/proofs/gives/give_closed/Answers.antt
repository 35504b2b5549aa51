use mathlib.Core.Bool.{not}
use mathlib.Core.Path.{ap}
use native.Mathlib.Omega.{arith}
use Rattle.lists.proofs.Facts.{states_rise}
use Rattle.stated.proofs.Giving.{return_some, return_low, give_here, call_name, rest_here, heads_upto, gives_nothing, gives_none, gives_lack, gives_on, name_given}
use Rattle.stated.proofs.gives.give_closed.Goals as goal

pub returns-then-call-s : goal.returns-then-call-s
returns-then-call-s c = gives_nothing c.requires.flow_ready.ready _ _ _ c.state_return-call.ensures c.if-call-s.true

pub heads_to-to-requires : goal.heads_to-to-requires
heads_to-to-requires c = record { ready = c.requires.flow_ready.ready; r_bound = omega (arith, return_low c.requires.flow_ready.ready _ _ c.requires.i_lt_states.0 c.state_return-call.ensures c.if-call-s.false) }

pub returns-then-from-to : goal.returns-then-from-to
returns-then-from-to c = gives_none _ _ (states_rise c.requires.flow_ready.ready) _ _ _ _ _ _ c.state_return-call.ensures c.state_class-c.ensures c.heads_from-from.ensures c.heads_to-to.ensures c.if-from-to.true

pub num-given-requires : goal.num-given-requires
num-given-requires c = c.requires.flow_ready.ready.whole

pub num-name-requires : goal.num-name-requires
num-name-requires c = c.requires.flow_ready.ready.whole

pub includes-requires : goal.includes-requires
includes-requires c = record {
  flow_sets = c.requires.flow_ready.names;
  a_lt_names = (give_here c.requires.flow_ready.ready _ _ c.requires.i_lt_states.1 c.num-given.ensures, call_name c.requires.flow_ready.ready _ _ (return_some c.requires.flow_ready.ready _ _ c.requires.i_lt_states.0 c.state_return-call.ensures c.if-call-s.false) c.num-name.ensures);
}

pub returns-then-not-includes : goal.returns-then-not-includes
returns-then-not-includes c = name_given _ _ _ _ _ _ c.num-given.ensures (gives_lack _ _ (states_rise c.requires.flow_ready.ready) _ _ _ _ _ _ c.state_return-call.ensures c.state_class-c.ensures c.heads_from-from.ensures c.heads_to-to.ensures _ _ c.if-from-to.false c.num-name.ensures c.includes.ensures (ap not c.if-not-includes.true))

pub overflow_add-next : goal.overflow_add-next
overflow_add-next c = omega (arith, return_low c.requires.flow_ready.ready _ _ c.requires.i_lt_states.0 c.state_return-call.ensures c.if-call-s.false)

pub overflow_add-call : goal.overflow_add-call
overflow_add-call c = omega (arith, return_low c.requires.flow_ready.ready _ _ c.requires.i_lt_states.0 c.state_return-call.ensures c.if-call-s.false)

pub num-requires : goal.num-requires
num-requires c = c.requires.flow_ready.ready.whole

pub overflow_add-next-2 : goal.overflow_add-next-2
overflow_add-next-2 c = omega (arith, rest_here c.requires.flow_ready.ready _ (return_some c.requires.flow_ready.ready _ _ c.requires.i_lt_states.0 c.state_return-call.ensures c.if-call-s.false) _ c.num.ensures)

pub go_on-requires : goal.go_on-requires
go_on-requires c = record { ready = c.requires.flow_ready.ready; to_le_states = heads_upto c.requires.flow_ready.ready _ _ _ c.heads_to-to.ensures }

pub returns : goal.returns
returns c = name_given _ _ _ _ _ _ c.num-given.ensures (gives_on _ _ (states_rise c.requires.flow_ready.ready) _ _ _ _ _ _ c.state_return-call.ensures c.state_class-c.ensures c.heads_from-from.ensures c.heads_to-to.ensures _ _ c.if-from-to.false c.num-name.ensures c.includes.ensures _ _ (ap not c.if-not-includes.false) (rest_here c.requires.flow_ready.ready _ (return_some c.requires.flow_ready.ready _ _ c.requires.i_lt_states.0 c.state_return-call.ensures c.if-call-s.false) _ c.num.ensures).0 c.go_on.ensures)
