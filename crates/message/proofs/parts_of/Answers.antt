-- Each return is the first check that refused, behind those that passed; the last ones by the bytes that are left.
use native.Mathlib.Omega.{arith}
use mathlib.Core.Path.{◌≡◌, ◌∙◌}
use Rattle.std.proofs.Common.{rules, Ok, Err}
use Rattle.message.proofs.Checks.{end_small, tests-of-parts}
use Rattle.message.proofs.parts_of.Goals as goal

pub returns-in_err-program_part : goal.returns-in_err-program_part
returns-in_err-program_part c =
    let refused : c.program_part.result ≡ Err c.in_err-program_part.field-0.0 = search rules in
    let handed_on : c.from_residual.result ≡ Err c.in_err-program_part.field-0.0 = search rules in
    handed_on ∙ search tests-of-parts

pub returns-in_err-bads_part : goal.returns-in_err-bads_part
returns-in_err-bads_part c =
    let program_part : c.program_part.result ≡ Ok tt = search rules in
    let refused : c.bads_part.result ≡ Err c.in_err-bads_part.field-0.0 = search rules in
    let handed_on : c.from_residual-in_err-bads_part.result ≡ Err c.in_err-bads_part.field-0.0 = search rules in
    handed_on ∙ search tests-of-parts

pub returns-in_err-tables_part : goal.returns-in_err-tables_part
returns-in_err-tables_part c =
    let program_part : c.program_part.result ≡ Ok tt = search rules in
    let bads_part : c.bads_part.result ≡ Ok tt = search rules in
    let refused : c.tables_part.result ≡ Err c.in_err-tables_part.field-0.0 = search rules in
    let handed_on : c.from_residual-in_err-tables_part.result ≡ Err c.in_err-tables_part.field-0.0 = search rules in
    handed_on ∙ search tests-of-parts

pub returns-in_err-ceilings_part : goal.returns-in_err-ceilings_part
returns-in_err-ceilings_part c =
    let program_part : c.program_part.result ≡ Ok tt = search rules in
    let bads_part : c.bads_part.result ≡ Ok tt = search rules in
    let tables_part : c.tables_part.result ≡ Ok tt = search rules in
    let refused : c.ceilings_part.result ≡ Err c.in_err-ceilings_part.field-0.0 = search rules in
    let handed_on : c.from_residual-in_err-ceilings_part.result ≡ Err c.in_err-ceilings_part.field-0.0 = search rules in
    handed_on ∙ search tests-of-parts

pub returns-in_err-weights_part : goal.returns-in_err-weights_part
returns-in_err-weights_part c =
    let program_part : c.program_part.result ≡ Ok tt = search rules in
    let bads_part : c.bads_part.result ≡ Ok tt = search rules in
    let tables_part : c.tables_part.result ≡ Ok tt = search rules in
    let ceilings_part : c.ceilings_part.result ≡ Ok tt = search rules in
    let refused : c.weights_part.result ≡ Err c.in_err-weights_part.field-0.0 = search rules in
    let handed_on : c.from_residual-in_err-weights_part.result ≡ Err c.in_err-weights_part.field-0.0 = search rules in
    handed_on ∙ search tests-of-parts depth 7

pub overflow_mul-end : goal.overflow_mul-end
overflow_mul-end c = omega (arith, end_small _ _ c.end_at-end.ensures c.sizes_of-s.ensures.low_sizes)

pub returns-then-end-bytes : goal.returns-then-end-bytes
returns-then-end-bytes c = search (rules, tests-of-parts) depth 7

pub returns : goal.returns
returns c = search (rules, tests-of-parts) depth 7
