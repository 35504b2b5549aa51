use native.Mathlib.Omega.{arith}
use Rattle.checks_sized.proofs.verdict.+whole_verdict.Goals as goal

pub decoded_over-requires : goal.decoded_over-requires
decoded_over-requires t c =
    let w = c.requires.whole_message in record { whole_message = w; words_bound = (omega (arith, w.bytes_end, w.longest), omega arith) }
