use Rattle.report.proofs.Rows.{row_put}
use Rattle.report.proofs.put_row.Goals as goal

pub returns : goal.returns
returns c =
    let z = row_put _ _ _ c.requires.rows_value.0 c.requires.r_lt_rows _ _ _ _ _ _ c.word-tag.ensures c.word-number.ensures (c.put_line.ensures.out_after, c.put_line.ensures.value) in record { out_after = z.0; value = z.1 }
