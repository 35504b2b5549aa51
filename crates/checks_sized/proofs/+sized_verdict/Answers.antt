use native.Mathlib.Omega.{arith}
use Rattle.model.specs.Limits.{max_rows, max_names}
use Rattle.values.specs.Values.{width}
use Rattle.checks_sized.proofs.Decoding.{fitting_words}
use Rattle.checks_sized.proofs.+sized_verdict.Goals as goal

pub fitting_over-requires : goal.fitting_over-requires
unfolding width
fitting_over-requires t c =
    let l = c.requires.parts_whole.limits in
    record { parts_whole = c.requires.parts_whole; words_bound = (fitting_words c.args.s max_rows max_names _ l.rows.1 l.names.1 (omega arith), omega arith) }

pub fitting_over-requires-then-most-le64 : goal.fitting_over-requires-then-most-le64
unfolding width
fitting_over-requires-then-most-le64 t c =
    record { parts_whole = c.requires.parts_whole; words_bound = (fitting_words c.args.s 64 64 _ (omega arith) (omega arith) (omega arith), omega arith) }

pub fitting_over-requires-then-most-le256 : goal.fitting_over-requires-then-most-le256
unfolding width
fitting_over-requires-then-most-le256 t c =
    record { parts_whole = c.requires.parts_whole; words_bound = (fitting_words c.args.s 256 256 _ (omega arith) (omega arith) (omega arith), omega arith) }
