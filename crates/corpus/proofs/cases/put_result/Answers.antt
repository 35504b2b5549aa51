use Rattle.corpus.proofs.Lining.{line_put}
use Rattle.corpus.proofs.cases.put_result.Goals as goal

pub returns : goal.returns
returns c =
    let z = line_put _ _ _ _ _ _ _ _ _ _ _ _ _ _ _ _ _ (c.put_pair-verdict.ensures.out_after, c.put_pair-verdict.ensures.value) (c.put_byte-first.ensures.out_after, c.put_byte-first.ensures.value) (c.put_hex-words.ensures.out_after, c.put_hex-words.ensures.value) (c.put_byte-second.ensures.out_after, c.put_byte-second.ensures.value) (c.put_hex-end.ensures.out_after, c.put_hex-end.ensures.value) (c.put_end.ensures.out_after, c.put_end.ensures.value) in record { out_after = z.0; value = z.1 }
