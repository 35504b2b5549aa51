use mathlib.Core.Bool.{not}
use mathlib.Core.Path.{ap}
use native.Mathlib.Omega.{arith}
use Rattle.model.specs.Words.{columns}
use Rattle.model.specs.Rows.{program}
use Rattle.asks.proofs.Rows.{row_below, message_below, send_below}
use Rattle.asks.proofs.Asking.{nonempty, mailed, send_none, class_told, send_empty, send_lacks, send_told, there_yes, there_no}
use Rattle.asks.proofs.send_asks.Goals as goal

pub is_class-requires : goal.is_class-requires
is_class-requires c = c.requires.mail_ready.ready.whole

pub returns-then-not-is_class : goal.returns-then-not-is_class
returns-then-not-is_class c = send_none _ _ _ _ _ c.is_class.ensures (ap not c.if-not-is_class.true)

pub overflow_add-r : goal.overflow_add-r
overflow_add-r c = omega (arith, (row_below c.requires.mail_ready.ready c.args.r (omega (arith, c.requires.r_value))).1)

pub num-message-requires : goal.num-message-requires
num-message-requires c = c.requires.mail_ready.ready.whole

pub meets-requires : goal.meets-requires
unfolding program columns
meets-requires c = let r = (c.requires.mail_ready.names.of_name _ (message_below c.requires.mail_ready.ready _ _ c.requires.r_value c.num-message.ensures)).row in (rw c.width-w.ensures r, rw c.width-w.ensures r)

pub returns-then-not-meets : goal.returns-then-not-meets
returns-then-not-meets c = send_empty _ _ _ _ _ c.is_class.ensures (ap not c.if-not-is_class.false) _ c.num-message.ensures _ (nonempty _ _ c.requires.mail_ready.names _ _ _ c.width-w.ensures (message_below c.requires.mail_ready.ready _ _ c.requires.r_value c.num-message.ensures) c.meets.ensures) (ap not c.if-not-meets.true)

pub mail_set-k-requires : goal.mail_set-k-requires
mail_set-k-requires c = c.requires.mail_ready.ready.whole

pub within-requires : goal.within-requires
unfolding program columns
within-requires c = (rw c.width-w.ensures (c.requires.mail_ready.names.of_name _ (message_below c.requires.mail_ready.ready _ _ c.requires.r_value c.num-message.ensures)).row, rw (c.width-w.ensures, c.mail_set-k.ensures) (c.requires.mail_ready.classes.of_class _ (class_told _ _ _ c.is_class.ensures (ap not c.if-not-is_class.false))).row)

pub returns-then-not-within : goal.returns-then-not-within
returns-then-not-within c = send_lacks _ _ _ _ _ c.is_class.ensures (ap not c.if-not-is_class.false) _ c.num-message.ensures _ (nonempty _ _ c.requires.mail_ready.names _ _ _ c.width-w.ensures (message_below c.requires.mail_ready.ready _ _ c.requires.r_value c.num-message.ensures) c.meets.ensures) (ap not c.if-not-meets.false) _ (mailed _ _ c.requires.mail_ready.names _ c.requires.mail_ready.classes _ _ _ _ _ c.width-w.ensures (message_below c.requires.mail_ready.ready _ _ c.requires.r_value c.num-message.ensures) (class_told _ _ _ c.is_class.ensures (ap not c.if-not-is_class.false)) c.mail_set-k.ensures c.within.ensures) (ap not c.if-not-within.true)

pub num-name-requires : goal.num-name-requires
num-name-requires c = c.requires.mail_ready.ready.whole

pub includes-requires : goal.includes-requires
includes-requires c = record { flow_sets = c.requires.mail_ready.names; a_lt_names = send_below c.requires.mail_ready.ready _ _ _ c.requires.r_value c.num-message.ensures c.num-name.ensures }

pub returns-then-includes : goal.returns-then-includes
returns-then-includes c = send_told _ _ _ _ _ c.is_class.ensures (ap not c.if-not-is_class.false) _ c.num-message.ensures _ (nonempty _ _ c.requires.mail_ready.names _ _ _ c.width-w.ensures (message_below c.requires.mail_ready.ready _ _ c.requires.r_value c.num-message.ensures) c.meets.ensures) (ap not c.if-not-meets.false) _ (mailed _ _ c.requires.mail_ready.names _ c.requires.mail_ready.classes _ _ _ _ _ c.width-w.ensures (message_below c.requires.mail_ready.ready _ _ c.requires.r_value c.num-message.ensures) (class_told _ _ _ c.is_class.ensures (ap not c.if-not-is_class.false)) c.mail_set-k.ensures c.within.ensures) (ap not c.if-not-within.false) _ c.num-name.ensures _ c.includes.ensures _ (there_yes _ c.if-includes.true)

pub returns-else-includes : goal.returns-else-includes
returns-else-includes c = send_told _ _ _ _ _ c.is_class.ensures (ap not c.if-not-is_class.false) _ c.num-message.ensures _ (nonempty _ _ c.requires.mail_ready.names _ _ _ c.width-w.ensures (message_below c.requires.mail_ready.ready _ _ c.requires.r_value c.num-message.ensures) c.meets.ensures) (ap not c.if-not-meets.false) _ (mailed _ _ c.requires.mail_ready.names _ c.requires.mail_ready.classes _ _ _ _ _ c.width-w.ensures (message_below c.requires.mail_ready.ready _ _ c.requires.r_value c.num-message.ensures) (class_told _ _ _ c.is_class.ensures (ap not c.if-not-is_class.false)) c.mail_set-k.ensures c.within.ensures) (ap not c.if-not-within.false) _ c.num-name.ensures _ c.includes.ensures _ (there_no _ c.if-includes.false)
