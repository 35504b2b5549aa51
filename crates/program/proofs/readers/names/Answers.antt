use Prim.Native.Nat.{◌+◌, ◌-◌, ◌<◌}
use native.Mathlib.Omega.{arith}
use mathlib.Core.Path.{◌≡◌, ◌∙◌}
use lib.ListN.{replicate}
use Rattle.model.specs.Rows.{program}
use Rattle.program.specs.Rows.{from, listed_item}
use Rattle.program.proofs.Items.{listed_says}
use Rattle.program.proofs.Reading.{past_answer, wrong_answer, replicate_none, rows_turn, rows_halt}
use Rattle.program.proofs.readers.names.Goals as goal

pub returns-then-not-is_row : goal.returns-then-not-is_row
returns-then-not-is_row c =
    let l = c.loop in
    wrong_answer _
    (l.invariant.1 ∙
    rows_halt _ _ _ _ l.q (omega arith) (listed_says _ _ _ _ _ c.requires.r_le_rows.1)
    c.is_row.ensures c.if-not-is_row.true)

-- one row more
turned : (c : goal.Else-not-is_row) → let a = c.args in let l = c.loop in (l.q < a.s.rows) × (from (program a.ws.now a.s) (replicate (a.n - l.counter) (listed_item a.t)) l.q ≡ from (program a.ws.now a.s) (replicate (a.n - (l.counter + 1)) (listed_item a.t)) (l.q + 1))
turned c =
    let l = c.loop in
    rows_turn _ _ _ _ _ l.q (omega arith) (listed_says _ _ _ _ _ c.requires.r_le_rows.1)
    c.is_row.ensures c.if-not-is_row.false

pub loop-preserved : goal.loop-preserved
loop-preserved c = (omega (arith, (turned c).0), c.loop.invariant.1 ∙ (turned c).1)

pub returns : goal.returns
returns c = let l = c.loop in past_answer l.q (l.invariant.1 ∙ replicate_none _ _ _ l.q (omega arith))
