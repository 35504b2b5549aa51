use Rattle.corpus.proofs.Lining.{hex_put}
use Rattle.corpus.proofs.cases.put_hex.Goals as goal

pub returns : goal.returns
returns c =
    let z = hex_put _ _ _ _ _ (c.put_digits.ensures.out_after, c.put_digits.ensures.value) in record { out_after = z.0; value = z.1 }
