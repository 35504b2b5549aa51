use native.Mathlib.Omega.{arith}
use mathlib.Core.Path.{refl}
use Rattle.mailed.proofs.Mailing.{mail_room, mails_hit, mails_miss, mails_end, mailed_refused, mailed_passed}
use Rattle.mailed.proofs.mailed_check.Goals as goal

pub loop-i-init : goal.loop-i-init
loop-i-init c = refl

pub overflow_add-result : goal.overflow_add-result
overflow_add-result c = omega (arith, mail_room _ _ c.requires _ c.mail.ensures, c.well_formed, c.loop-i-test.true)

pub returns-then-mails_function : goal.returns-then-mails_function
returns-then-mails_function c = mailed_refused _ _ _ (mails_hit _ _ _ c.loop-i.invariant c.loop-i-test.true _ c.mails_function.ensures c.if-mails_function.true) _ c.mail.ensures c.loop-i-test.true

pub loop-i-preserved : goal.loop-i-preserved
loop-i-preserved c = mails_miss _ _ _ c.loop-i.invariant c.loop-i-test.true _ c.mails_function.ensures c.if-mails_function.false

pub returns : goal.returns
returns c = mailed_passed _ _ _ (mails_end _ _ _ c.loop-i.invariant c.loop-i-test.false) (omega (arith, c.loop-i-test.false))
