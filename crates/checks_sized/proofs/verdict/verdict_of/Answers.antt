use Rattle.model.specs.Verify.{verdict_within}
use Rattle.checks_sized.proofs.Decoding.{safe_told, refusal_told}
use Rattle.checks_sized.proofs.verdict.verdict_of.Goals as goal

pub returns-in-Ok : goal.returns-in-Ok
unfolding verdict_within
returns-in-Ok c = record { value = safe_told _ _ c.bytes_verdict.ensures.value c.in-Ok.is; lent_after = c.bytes_verdict.ensures.lent_after }

pub returns-in-Err : goal.returns-in-Err
unfolding verdict_within
returns-in-Err c = record { value = refusal_told _ _ c.bytes_verdict.ensures.value _ c.in-Err.is; lent_after = c.bytes_verdict.ensures.lent_after }
