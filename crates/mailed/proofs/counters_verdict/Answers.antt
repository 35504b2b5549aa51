use mathlib.Core.Path.{◌≡◌, ◌∙◌}
use Rattle.std.proofs.Common.{rules, Ok, Err}
use Rattle.mailed.proofs.Mailing.{counters_told, mailed_told}
use Rattle.mailed.proofs.counters_verdict.Goals as goal

pub returns-in_err-mailed_check : goal.returns-in_err-mailed_check
returns-in_err-mailed_check c =
    let a : c.mailed_check.result ≡ Err c.in_err-mailed_check.field-0.0 = search rules in
    let b : c.from_residual.result ≡ Err c.in_err-mailed_check.field-0.0 = search rules in
    b ∙ mailed_told _ _ _ _ c.mailed_check.ensures _ a

pub returns : goal.returns
returns c =
    let a : c.mailed_check.result ≡ Ok tt = search rules in
    counters_told _ _ _ _ c.mailed_check.ensures _ c.counter_check.ensures a
