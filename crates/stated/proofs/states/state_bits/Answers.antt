use native.Mathlib.Omega.{arith}
use mathlib.Core.Path.{sym, ◌∙◌}
use Rattle.model.specs.Words.{columns}
use Rattle.model.specs.Rows.{program}
use Rattle.asks.proofs.Rows.{row_below}
use Rattle.settled.proofs.Settling.{closure_match, closure_flow, closure_layout, closure_starts, case_here, receive_here}
use Rattle.stated.proofs.Giving.{class_some, head_some, class_at, location_at}
use Rattle.stated.proofs.Dispatch.{stated_give, stated_call, stated_self, stated_case, stated_mail, stated_rest}
use Rattle.stated.proofs.states.state_bits.Goals as goal

pub tag-requires : goal.tag-requires
tag-requires c = c.requires.closure_ready.ready.whole

pub give_closed-requires : goal.give_closed-requires
give_closed-requires c = record { flow_ready = closure_flow c.requires.closure_ready; i_lt_states = (c.requires.state_asked.low, (sym c.tag.ensures ∙ c.in-1.is)) }

pub call_closed-requires : goal.call_closed-requires
call_closed-requires c = record {
  starts_ready = closure_starts c.requires.closure_ready;
  r_value = ((sym c.tag.ensures ∙ c.in-4.is), c.requires.state_asked.settled.asked (omega (arith, (sym c.tag.ensures ∙ c.in-4.is))) (omega (arith, (sym c.tag.ensures ∙ c.in-4.is))));
}

pub self_closed-requires : goal.self_closed-requires
self_closed-requires c = record { layout_ready = closure_layout c.requires.closure_ready; flow_sets = (c.requires.closure_ready.names, (c.requires.state_asked.low, (sym c.tag.ensures ∙ c.in-7.is))) }

pub overflow_add-r : goal.overflow_add-r
overflow_add-r c = omega (arith, (row_below c.requires.closure_ready.ready c.args.r (head_some c.requires.closure_ready.ready _ _ c.requires.state_asked.low c.requires.state_asked.location).0).1)

pub num-count-requires : goal.num-count-requires
num-count-requires c = c.requires.closure_ready.ready.whole

pub overflow_add-r-in-8 : goal.overflow_add-r-in-8
overflow_add-r-in-8 c = omega (arith, (row_below c.requires.closure_ready.ready c.args.r (head_some c.requires.closure_ready.ready _ _ c.requires.state_asked.low c.requires.state_asked.location).0).1)

pub branches_here-requires : goal.branches_here-requires
branches_here-requires c = record {
  layout_ready = closure_layout c.requires.closure_ready;
  i_lt_states = (c.requires.state_asked.low, (case_here c.requires.closure_ready.ready _ (sym c.tag.ensures ∙ c.in-8.is) _ c.num-count.ensures).0);
}

pub num-number-requires : goal.num-number-requires
num-number-requires c = c.requires.closure_ready.ready.whole

pub mail_set-set-requires : goal.mail_set-set-requires
mail_set-set-requires c = c.requires.closure_ready.ready.whole

pub overflow_add-r-in-9 : goal.overflow_add-r-in-9
overflow_add-r-in-9 c = omega (arith, (row_below c.requires.closure_ready.ready c.args.r (head_some c.requires.closure_ready.ready _ _ c.requires.state_asked.low c.requires.state_asked.location).0).1)

pub taken_bits-bits-requires : goal.taken_bits-bits-requires
unfolding program columns
taken_bits-bits-requires c =
    let (run, few) = receive_here c.requires.closure_ready.ready _ (sym c.tag.ensures ∙ c.in-9.is) _ c.num-number.ensures in
    record {
      cases = closure_match c.requires.closure_ready;
      branches_asked = record { row = rw c.mail_set-set.ensures (c.requires.closure_ready.classes.of_class _ ((class_some c.requires.closure_ready.ready _ _ c.requires.state_asked.low c.state_class-c.ensures))).row; run = run; few = few };
    }

pub overflow_add-r-in-9-2 : goal.overflow_add-r-in-9-2
overflow_add-r-in-9-2 c = omega (arith, (row_below c.requires.closure_ready.ready c.args.r (head_some c.requires.closure_ready.ready _ _ c.requires.state_asked.low c.requires.state_asked.location).0).1)

pub branches_here-requires-in-9 : goal.branches_here-requires-in-9
branches_here-requires-in-9 c = record {
  layout_ready = closure_layout c.requires.closure_ready;
  i_lt_states = (c.requires.state_asked.low, (receive_here c.requires.closure_ready.ready _ (sym c.tag.ensures ∙ c.in-9.is) _ c.num-number.ensures).0);
}

pub rest_closed-requires : goal.rest_closed-requires
rest_closed-requires c = record {
  layout_ready = closure_layout c.requires.closure_ready;
  i_lt_states = (c.requires.state_asked.low, (omega (arith, c.tag.ensures, c.in_default.in_default-own.rest.0.0.0.0.1, (head_some c.requires.closure_ready.ready _ _ c.requires.state_asked.low c.requires.state_asked.location).0), omega (arith, c.tag.ensures, c.in_default.in_default-own.rest.0.1, c.in_default.in_default-own.rest.1, (head_some c.requires.closure_ready.ready _ _ c.requires.state_asked.low c.requires.state_asked.location).1)));
}

pub returns-in-1 : goal.returns-in-1
returns-in-1 c = stated_give _ _ _ _ _ (location_at _ _ _ c.requires.state_asked.location) c.tag.ensures _ _ c.in-1.is c.give_closed.ensures c.unless.ensures

pub returns-in-4 : goal.returns-in-4
returns-in-4 c = stated_call _ _ _ _ _ (location_at _ _ _ c.requires.state_asked.location) c.tag.ensures _ _ c.in-4.is c.call_closed.ensures c.unless-in-4.ensures

pub returns-in-7 : goal.returns-in-7
returns-in-7 c = stated_self _ _ _ _ _ (location_at _ _ _ c.requires.state_asked.location) c.tag.ensures _ _ c.in-7.is c.self_closed.ensures c.unless-in-7.ensures

pub returns-in-8 : goal.returns-in-8
returns-in-8 c = stated_case _ _ _ _ _ (location_at _ _ _ c.requires.state_asked.location) c.tag.ensures _ _ _ c.in-8.is c.num-count.ensures (c.requires.state_asked.settled.taken (sym c.tag.ensures ∙ c.in-8.is)) c.requires.state_asked.settled.most c.branches_here.ensures

pub returns-in-9 : goal.returns-in-9
unfolding program columns
returns-in-9 c = stated_mail _ _ _ _ _ _ _ _ _ _ _ (class_at _ _ _ c.state_class-c.ensures) (location_at _ _ _ c.requires.state_asked.location) c.tag.ensures c.in-9.is c.num-number.ensures (receive_here c.requires.closure_ready.ready _ (sym c.tag.ensures ∙ c.in-9.is) _ c.num-number.ensures).1 c.mail_set-set.ensures c.taken_bits-bits.ensures (c.requires.closure_ready.classes.of_class _ ((class_some c.requires.closure_ready.ready _ _ c.requires.state_asked.low c.state_class-c.ensures))) c.branches_here-in-9.ensures

pub returns-in_default : goal.returns-in_default
returns-in_default c = stated_rest _ _ _ _ _ (location_at _ _ _ c.requires.state_asked.location) c.tag.ensures _ _ _ (omega (arith, c.tag.ensures, c.in_default.in_default-own.rest.0.0.0.0.1, (head_some c.requires.closure_ready.ready _ _ c.requires.state_asked.low c.requires.state_asked.location).0)) (omega (arith, c.tag.ensures, c.in_default.in_default-own.rest.0.0.1, c.in_default.in_default-own.rest.0.1, c.in_default.in_default-own.rest.1, (head_some c.requires.closure_ready.ready _ _ c.requires.state_asked.low c.requires.state_asked.location).1)) c.in_default.in_default-own.rest.0.0.0.1 c.requires.state_asked.settled c.rest_closed.ensures c.unless-in_default.ensures
