use native.Mathlib.Omega.{arith}
use Rattle.std.proofs.Common.{rules}
use Rattle.model.specs.Rows.{whole}
use Rattle.program.proofs.Reading.{rows_pass, rows_left, row_wrong, past_upto, wrong_upto}
use Rattle.grammar.proofs.row_check.Goals as goal

pub overflow_add-result : goal.overflow_add-result
overflow_add-result c = omega (arith, (past_upto _ _ (whole _) _ 0 _ (search rules) c.whole.ensures c.in-Ok.is).1)

pub overflow_add-result-in-Err : goal.overflow_add-result-in-Err
overflow_add-result-in-Err c = omega (arith, (wrong_upto _ _ (whole _) _ 0 _ (search rules) c.whole.ensures c.in-Err.is).1)

pub returns-in-Ok : goal.returns-in-Ok
returns-in-Ok c = rows_pass _ _ _ _ c.whole.ensures c.in-Ok.is c.if-r-s.true

pub returns-in-Ok-2 : goal.returns-in-Ok-2
returns-in-Ok-2 c = rows_left _ _ _ _ c.whole.ensures c.in-Ok.is c.if-r-s.false

pub returns-in-Err : goal.returns-in-Err
returns-in-Err c = row_wrong _ _ _ _ c.whole.ensures c.in-Err.is
