use mathlib.Core.Path.{◌≡◌, sym, ◌∙◌}
use mathlib.Core.List.{[], ◌∷◌}
use Rattle.std.proofs.Common.{rules, Ok, Err}
use Rattle.model.specs.Rows.{expression, declarations, whole}
use Rattle.program.proofs.Reading.{handed_on, then_past, then_wrong, past_upto}
use Rattle.grammar.proofs.whole.Goals as goal

pub expression-requires : goal.expression-requires
expression-requires c =
    let past : c.declarations.result ≡ Ok c.in_ok-start.start = search rules in
    record { whole = search rules; r_le_rows = (past_upto _ _ (declarations _) _ 0 _ (search rules) c.declarations.ensures past).1 }

pub returns-in_err-start : goal.returns-in_err-start
unfolding whole
returns-in_err-start c =
    let wrong : c.declarations.result ≡ Err c.in_err-start.field-0.0 = search rules in
    handed_on _ _ (search rules) (then_wrong _ (declarations _) (expression ∷ []) _ 0 _ c.declarations.ensures wrong)

pub returns : goal.returns
unfolding whole
returns c =
    let past : c.declarations.result ≡ Ok c.in_ok-start.start = search rules in
    c.expression.ensures ∙ sym (then_past _ (declarations _) (expression ∷ []) _ 0 _ c.declarations.ensures past)
