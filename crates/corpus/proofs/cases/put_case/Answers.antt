use Rattle.corpus.proofs.Lining.{case_put}
use Rattle.corpus.proofs.cases.put_case.Goals as goal

pub returns : goal.returns
returns c =
    let z = case_put _ _ _ _ _ _ c.fill_marks.ensures c.fill_marks.auto.words c.verify-part.ensures.answer_after c.verify-part.ensures.lent_after c.verify-part.ensures.result_value _ _ _ _ _ c.add_words-words.ensures c.add_bytes-handed.ensures c.requires.in_bounds (c.put_result.ensures.out_after, c.put_result.ensures.value) in record { out_after = z.0; lent_after = z.1.0; value = z.1.1.0; prefix_len = z.1.1.1 }
