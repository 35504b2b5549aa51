use Rattle.text.specs.Text.{line}
use Rattle.text.proofs.Putting.{put_ended}
use Rattle.text.proofs.put_line.Goals as goal

pub returns : goal.returns
unfolding line
returns c =
    let z = put_ended _ _ _ _ _ _ _ (c.put_pair-end.ensures.out_after, c.put_pair-end.ensures.value) (c.put_end.ensures.out_after, c.put_end.ensures.value) in record { out_after = z.0; value = z.1 }
