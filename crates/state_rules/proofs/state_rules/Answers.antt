use native.Mathlib.Omega.{arith}
use mathlib.Core.Path.{refl, sym, ◌∙◌}
use mathlib.Core.Bool.{true}
use Rattle.model.specs.Rows.{program, give, call, send, spawn, case, receive, kind}
use Rattle.rules.specs.Listed.{kind_effect}
use Rattle.rules.proofs.States.{state_head}
use Rattle.state_rules.proofs.Done.{quiet_done, loud_done, plain_done}
use Rattle.plain_rules.specs.Heads.{Plain}
use Rattle.rules.proofs.Adding.{added_same}
use Rattle.rules.proofs.Within.{all_pass, all_row, all_asked}
use Rattle.state_rules.proofs.Rooms.{send_tables, receive_tables}
use Rattle.state_rules.proofs.state_rules.Goals as goal
use Rattle.state_rules.proofs.state_rules.Goals.{In_default}

-- a build, a function or self
plain : (c : In_default) → Plain (program c.args.ws.now c.args.s) c.state_location-r.result
plain c = record { head = rw c.state_location-r.ensures (state_head c.requires.rule_tables.ready c.args.i c.requires.i_lt_states); not_give = λ z. c.in_default.in_default-own.rest.0.0.0.0.0.1 (c.tag.ensures ∙ z); not_call = λ z. c.in_default.in_default-own.rest.0.0.0.0.1 (c.tag.ensures ∙ z); not_send = λ z. c.in_default.in_default-own.rest.0.0.0.1 (c.tag.ensures ∙ z); not_spawn = λ z. c.in_default.in_default-own.rest.0.0.1 (c.tag.ensures ∙ z); not_case = λ z. c.in_default.in_default-own.rest.0.1 (c.tag.ensures ∙ z); not_receive = λ z. c.in_default.in_default-own.rest.1 (c.tag.ensures ∙ z) }

pub state_location-r-requires : goal.state_location-r-requires
state_location-r-requires c = c.requires.rule_tables.ready

pub tag-requires : goal.tag-requires
tag-requires c = c.requires.rule_tables.ready.whole

pub give_rules-requires : goal.give_rules-requires
give_rules-requires c = record {
  ready = c.requires.rule_tables.ready;
  ends = c.requires.rule_tables.ends;
  i_lt_states = c.requires.i_lt_states;
  i_value = (rw c.state_location-r.ensures at (sym c.tag.ensures)) ∙ c.in-1.is;
  states_in_bounds = omega (arith, c.requires.rule_tables.ready.limits.states, c.requires.rule_room.counters);
}

pub call_rules-requires : goal.call_rules-requires
call_rules-requires c = record {
  ready = c.requires.rule_tables.ready;
  starts = c.requires.rule_tables.flow_starts;
  i_lt_states = (c.requires.i_lt_states, c.state_location-r.ensures);
  r_value = (sym c.tag.ensures ∙ c.in-4.is);
  rows_in_bounds = c.requires.rule_room.values;
}

pub send_rules-requires : goal.send_rules-requires
send_rules-requires c = record {
  send_tables = send_tables c.requires.rule_tables;
  lettered_state = record {
    state = record { low = c.requires.i_lt_states; row = c.state_location-r.ensures; head = sym c.tag.ensures ∙ c.in-5.is };
    within_row = all_row _;
    room = c.requires.rule_room;
  };
}

pub spawn_rules-requires : goal.spawn_rules-requires
spawn_rules-requires c = record {
  ready = c.requires.rule_tables.ready;
  ends = c.requires.rule_tables.ends;
  starts = c.requires.rule_tables.flow_starts;
  i_lt_states = (c.requires.i_lt_states, c.state_location-r.ensures);
  r_value = (sym c.tag.ensures ∙ c.in-6.is);
  rule_room = c.requires.rule_room;
}

pub case_rules-requires : goal.case_rules-requires
case_rules-requires c = record {
  ready = c.requires.rule_tables.ready;
  ends = c.requires.rule_tables.ends;
  branch_bits = c.requires.rule_tables.branch_bits;
  r_value = (sym c.tag.ensures ∙ c.in-8.is);
  i_lt_states = (c.requires.i_lt_states, c.state_location-r.ensures);
  max_branches_in_bounds = omega (arith, c.requires.rule_room.letters);
}

pub receive_rules-requires : goal.receive_rules-requires
receive_rules-requires c = record {
  receive_tables = receive_tables c.requires.rule_tables;
  lettered_state = record {
    state = record { low = c.requires.i_lt_states; row = c.state_location-r.ensures; head = sym c.tag.ensures ∙ c.in-9.is };
    within_row = all_row _;
    room = c.requires.rule_room;
  };
}

pub rest_rules-requires : goal.rest_rules-requires
rest_rules-requires c =
    let plain-here : Plain (program c.args.ws.now c.args.s) c.state_location-r.result = record { head = rw c.state_location-r.ensures (state_head c.requires.rule_tables.ready c.args.i c.requires.i_lt_states); not_give = λ z. c.in_default.in_default-own.rest.0.0.0.0.0.1 (c.tag.ensures ∙ z); not_call = λ z. c.in_default.in_default-own.rest.0.0.0.0.1 (c.tag.ensures ∙ z); not_send = λ z. c.in_default.in_default-own.rest.0.0.0.1 (c.tag.ensures ∙ z); not_spawn = λ z. c.in_default.in_default-own.rest.0.0.1 (c.tag.ensures ∙ z); not_case = λ z. c.in_default.in_default-own.rest.0.1 (c.tag.ensures ∙ z); not_receive = λ z. c.in_default.in_default-own.rest.1 (c.tag.ensures ∙ z) } in
    record {
      ready = c.requires.rule_tables.ready;
      ends = c.requires.rule_tables.ends;
      i_lt_states = (c.requires.i_lt_states, c.state_location-r.ensures);
      plain = plain-here;
      tos_nonzero = omega (arith, c.requires.rule_room.values);
    }

pub returns-in-1 : goal.returns-in-1
unfolding kind kind_effect
returns-in-1 c = quiet_done c.requires.rule_tables.ready c.args.i _ _ c.state_location-r.ensures _ c.args.others.now _ _ c.requires.rule_room.alike give (rw (sym c.tag.ensures ∙ c.in-1.is)) (λ y. refl) c.give_rules.ensures refl

pub returns-in-4 : goal.returns-in-4
unfolding kind kind_effect
returns-in-4 c = quiet_done c.requires.rule_tables.ready c.args.i _ _ c.state_location-r.ensures _ c.args.others.now _ _ c.requires.rule_room.alike call (rw (sym c.tag.ensures ∙ c.in-4.is)) (λ y. refl) c.call_rules.ensures refl

pub returns-in-5 : goal.returns-in-5
unfolding kind
returns-in-5 c = loud_done c.requires.rule_tables.ready c.args.i _ _ c.state_location-r.ensures _ c.args.others.now _ _ c.requires.rule_room.alike send (rw (sym c.tag.ensures ∙ c.in-5.is)) (added_same send _ _ 0 _ _ _ _ _ (c.send_rules.ensures (λ x. true) (all_asked _ _)) (λ e. all_pass _))

pub returns-in-6 : goal.returns-in-6
unfolding kind
returns-in-6 c = loud_done c.requires.rule_tables.ready c.args.i _ _ c.state_location-r.ensures _ c.args.others.now _ _ c.requires.rule_room.alike spawn (rw (sym c.tag.ensures ∙ c.in-6.is)) c.spawn_rules.ensures

pub returns-in-8 : goal.returns-in-8
unfolding kind kind_effect
returns-in-8 c = quiet_done c.requires.rule_tables.ready c.args.i _ _ c.state_location-r.ensures _ c.args.others.now _ _ c.requires.rule_room.alike case (rw (sym c.tag.ensures ∙ c.in-8.is)) (λ y. refl) c.case_rules.ensures refl

pub returns-in-9 : goal.returns-in-9
unfolding kind
returns-in-9 c = loud_done c.requires.rule_tables.ready c.args.i _ _ c.state_location-r.ensures _ c.args.others.now _ _ c.requires.rule_room.alike receive (rw (sym c.tag.ensures ∙ c.in-9.is)) (added_same receive _ _ 0 _ _ _ _ _ (c.receive_rules.ensures (λ x. true) (all_asked _ _)) (λ e. all_pass _))

pub returns-in_default : goal.returns-in_default
returns-in_default c =
    let plain-here : Plain (program c.args.ws.now c.args.s) c.state_location-r.result = record { head = rw c.state_location-r.ensures (state_head c.requires.rule_tables.ready c.args.i c.requires.i_lt_states); not_give = λ z. c.in_default.in_default-own.rest.0.0.0.0.0.1 (c.tag.ensures ∙ z); not_call = λ z. c.in_default.in_default-own.rest.0.0.0.0.1 (c.tag.ensures ∙ z); not_send = λ z. c.in_default.in_default-own.rest.0.0.0.1 (c.tag.ensures ∙ z); not_spawn = λ z. c.in_default.in_default-own.rest.0.0.1 (c.tag.ensures ∙ z); not_case = λ z. c.in_default.in_default-own.rest.0.1 (c.tag.ensures ∙ z); not_receive = λ z. c.in_default.in_default-own.rest.1 (c.tag.ensures ∙ z) } in plain_done c.requires.rule_tables.ready c.args.i _ _ c.state_location-r.ensures _ c.args.others.now _ _ c.requires.rule_room.alike plain-here c.rest_rules.ensures refl
