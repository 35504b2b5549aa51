use Rattle.report.proofs.Rows.{sizes_put}
use Rattle.report.proofs.put_sizes.Goals as goal

pub returns : goal.returns
returns c =
    let z = sizes_put c.args.ws.now _ _ _ _ _ _ _ _ _ _ (c.put_two-half.ensures.out_after, c.put_two-half.ensures.value) (c.put_byte-space.ensures.out_after, c.put_byte-space.ensures.value) (c.put_two-end.ensures.out_after, c.put_two-end.ensures.value) (c.put_end.ensures.out_after, c.put_end.ensures.value) in record { out_after = z.0; value = z.1 }
