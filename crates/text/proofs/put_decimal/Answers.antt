use Rattle.text.proofs.Digits.{decimal_put}
use Rattle.text.proofs.put_decimal.Goals as goal

pub returns : goal.returns
returns c =
    let z = decimal_put _ _ _ _ _ _ c.width_of.ensures (c.put_digits.ensures.out_after, c.put_digits.ensures.value) in record { out_after = z.0; value = z.1 }
