use borrow.Author.Rules.{rules}
use Rattle.report.proofs.Rows.{rows_none, rows_more, rows_all}
use Rattle.report.proofs.put_rows.Goals as goal

pub loop-r-init : goal.loop-r-init
loop-r-init c = rows_none _ _ _

pub loop-r-preserved : goal.loop-r-preserved
loop-r-preserved c =
    let put = c.put_row-here.ensures in
    rows_more _ _ _ _ _ _ _ _ c.loop-r.invariant (put.out_after, put.value)

pub returns : goal.returns
returns c =
    let z = rows_all _ _ c.loop-r.r _ _ _ _ c.loop-r.invariant (search rules) in record { out_after = z.0; value = z.1 }
