use mathlib.Core.Path.{◌≡◌, sym, ◌∙◌}
use lib.ListN.{replicate}
use Rattle.std.proofs.Common.{rules, Ok, Err}
use Rattle.model.specs.Rows.{program, constructor, global, declarations}
use Rattle.program.proofs.Reading.{handed_on, then_past, then_wrong, past_upto}
use Rattle.grammar.proofs.declarations.Goals as goal

pub globals-requires : goal.globals-requires
globals-requires c =
    let a = c.args in
    let past : c.constructors.result ≡ Ok c.in_ok-functions.functions = search rules in
    record {
      whole = search rules;
      r_le_rows = (past_upto _ _ (replicate a.s.constructors constructor) _ 0 _ (search rules) c.constructors.ensures past).1;
    }

pub returns-in_err-functions : goal.returns-in_err-functions
unfolding declarations program
returns-in_err-functions c =
    let a = c.args in
    let wrong : c.constructors.result ≡ Err c.in_err-functions.field-0.0 = search rules in
    handed_on _ _ (search rules)
    (then_wrong _ (replicate a.s.constructors constructor) (replicate a.s.functions global) _ 0 _ c.constructors.ensures wrong)

pub returns : goal.returns
unfolding declarations program
returns c =
    let a = c.args in
    let past : c.constructors.result ≡ Ok c.in_ok-functions.functions = search rules in
    c.globals.ensures ∙
    sym (then_past _ (replicate a.s.constructors constructor) (replicate a.s.functions global) _ 0 _ c.constructors.ensures past)
