use Rattle.report.proofs.Rows.{system_put}
use Rattle.report.proofs.put_system.Goals as goal

pub returns : goal.returns
returns c =
    let z = system_put _ _ _ _ _ _ _ _ c.word-rows.ensures (c.put_sizes-first.ensures.out_after, c.put_sizes-first.ensures.value) (c.put_rows.ensures.out_after, c.put_rows.ensures.value) in record { out_after = z.0; value = z.1 }
