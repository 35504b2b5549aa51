use mathlib.Core.Path.{sym, ◌∙◌, ap}
use Rattle.model.specs.Rows.{tag, kind, send, receive}
use Rattle.rules.proofs.Within.{set_row, set_asked}
use Rattle.state_rules.proofs.Rooms.{send_tables, receive_tables}
use Rattle.state_rules.proofs.Within.{plain_within, lettered_within}
use Rattle.state_rules.proofs.rules_within.Goals as goal

pub state_location-row-requires : goal.state_location-row-requires
state_location-row-requires c = c.requires.rule_tables.ready

pub tag-requires : goal.tag-requires
tag-requires c = c.requires.rule_tables.ready.whole

pub send_rules-requires : goal.send_rules-requires
send_rules-requires c = record {
  send_tables = send_tables c.requires.rule_tables;
  lettered_state = record {
    state = record { low = c.requires.i_lt_states; row = c.state_location-row.ensures; head = sym c.tag.ensures ∙ c.in-5.is };
    within_row = set_row _ _ c.requires.row;
    room = c.requires.rule_room;
  };
}

pub receive_rules-requires : goal.receive_rules-requires
receive_rules-requires c = record {
  receive_tables = receive_tables c.requires.rule_tables;
  lettered_state = record {
    state = record { low = c.requires.i_lt_states; row = c.state_location-row.ensures; head = sym c.tag.ensures ∙ c.in-9.is };
    within_row = set_row _ _ c.requires.row;
    room = c.requires.rule_room;
  };
}

pub state_rules-requires : goal.state_rules-requires
state_rules-requires c = record { rule_tables = c.requires.rule_tables; i_lt_states = c.requires.i_lt_states; rule_room = c.requires.rule_room }

pub returns-in-5 : goal.returns-in-5
unfolding kind
returns-in-5 c = λ f o. lettered_within _ _ f _ _ c.args.tos.now c.args.others.now _ _ send (rw (ap (tag _) (sym c.state_location-row.ensures) ∙ (sym c.tag.ensures ∙ c.in-5.is))) c.requires.rule_room.alike (c.send_rules.ensures f (set_asked _ _ _ f o))

pub returns-in-9 : goal.returns-in-9
unfolding kind
returns-in-9 c = λ f o. lettered_within _ _ f _ _ c.args.tos.now c.args.others.now _ _ receive (rw (ap (tag _) (sym c.state_location-row.ensures) ∙ (sym c.tag.ensures ∙ c.in-9.is))) c.requires.rule_room.alike (c.receive_rules.ensures f (set_asked _ _ _ f o))

pub returns-in_default : goal.returns-in_default
returns-in_default c = λ f o. plain_within _ _ f _ _ c.args.tos.now c.args.others.now _ _ (λ e. c.in_default.in_default-own.rest.0.1 (c.tag.ensures ∙ (ap (tag _) c.state_location-row.ensures ∙ e))) (λ e. c.in_default.in_default-own.rest.1 (c.tag.ensures ∙ (ap (tag _) c.state_location-row.ensures ∙ e))) c.state_rules.ensures
