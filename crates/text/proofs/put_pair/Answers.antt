use Rattle.text.specs.Text.{pair}
use Rattle.text.proofs.Putting.{put_spaced}
use Rattle.text.proofs.put_pair.Goals as goal

pub returns : goal.returns
unfolding pair
returns c =
    let z = put_spaced _ _ _ _ _ _ _ _ _ _ (c.put_decimal-first.ensures.out_after, c.put_decimal-first.ensures.value) (c.put_byte-space.ensures.out_after, c.put_byte-space.ensures.value) (c.put_decimal.ensures.out_after, c.put_decimal.ensures.value) in record { out_after = z.0; value = z.1 }
