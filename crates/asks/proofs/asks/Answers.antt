use mathlib.Core.Path.{sym, ◌∙◌}
use native.Mathlib.Omega.{arith}
use Rattle.asks.proofs.Asking.{mail_flow, asks_call, asks_send, asks_spawn}
use Rattle.asks.proofs.asks.Goals as goal

pub tag-requires : goal.tag-requires
tag-requires c = c.requires.mail_ready.ready.whole

pub call_asks-requires : goal.call_asks-requires
call_asks-requires c = record { flow_ready = mail_flow c.requires.mail_ready; r_value = sym c.tag.ensures ∙ c.in-4.is }

pub send_asks-requires : goal.send_asks-requires
send_asks-requires c = record { mail_ready = c.requires.mail_ready; r_value = sym c.tag.ensures ∙ c.in-5.is }

pub spawn_asks-requires : goal.spawn_asks-requires
spawn_asks-requires c = record {
  flow_ready = mail_flow c.requires.mail_ready;
  r_value = omega (arith, c.tag.ensures, c.in_default.in_default-own.rest.0.1, c.in_default.in_default-own.rest.1, c.requires.bound.0, c.requires.bound.1);
}

pub returns-in-4 : goal.returns-in-4
returns-in-4 c = asks_call _ _ _ _ _ _ c.tag.ensures c.in-4.is c.call_asks.ensures

pub returns-in-5 : goal.returns-in-5
returns-in-5 c = asks_send _ _ _ _ _ _ c.tag.ensures c.in-5.is c.send_asks.ensures

pub returns-in_default : goal.returns-in_default
returns-in_default c = asks_spawn _ _ _ _ _ _ c.tag.ensures c.in_default.in_default-own.rest.0.1 c.in_default.in_default-own.rest.1 c.spawn_asks.ensures
