use mathlib.Core.Path.{◌≡◌, ◌∙◌}
use Rattle.std.proofs.Common.{rules, Ok, Err}
use Rattle.evidence.proofs.Tables.{flow_held, mail_held, states_held, flow_refused, mail_refused, states_told}
use Rattle.evidence.proofs.entries.entry_check.Goals as goal

pub list_check-requires-clause-held : goal.list_check-requires-clause-held
list_check-requires-clause-held c = flow_held _ _ c.requires _ c.flow.ensures

pub returns-in_err-list_check : goal.returns-in_err-list_check
returns-in_err-list_check c =
    let a : c.list_check.result ≡ Err c.in_err-list_check.field-0.0 = search rules in
    let b : c.from_residual.result ≡ Err c.in_err-list_check.field-0.0 = search rules in
    b ∙ flow_refused _ _ _ c.flow.ensures _ c.list_check.ensures _ a

pub list_check-requires-2-clause-held : goal.list_check-requires-2-clause-held
list_check-requires-2-clause-held c = mail_held _ _ c.requires _ c.mail.ensures

pub returns-in_err-list_check-2 : goal.returns-in_err-list_check-2
returns-in_err-list_check-2 c =
    let flow : c.list_check.result ≡ Ok tt = search rules in
    let a : c.list_check-2.result ≡ Err c.in_err-list_check-2.field-0.0 = search rules in
    let b : c.from_residual-in_err-list_check-2.result ≡ Err c.in_err-list_check-2.field-0.0 = search rules in
    b ∙ mail_refused _ _ _ c.flow.ensures _ c.list_check.ensures flow _ c.mail.ensures _ c.list_check-2.ensures _ a

pub list_check-requires-3-clause-held : goal.list_check-requires-3-clause-held
list_check-requires-3-clause-held c = states_held _ _ c.requires _ c.states.ensures

pub returns : goal.returns
returns c =
    let flow : c.list_check.result ≡ Ok tt = search rules in
    let mail : c.list_check-2.result ≡ Ok tt = search rules in
    states_told _ _ _ c.flow.ensures _ c.list_check.ensures flow _ c.mail.ensures _ c.list_check-2.ensures mail _ c.states.ensures _ c.list_check-3.ensures
