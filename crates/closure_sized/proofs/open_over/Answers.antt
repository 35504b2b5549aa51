use native.Mathlib.Omega.{arith}
use Rattle.closure_sized.proofs.Opening.{lends, words_fit}
use Rattle.closure_sized.proofs.open_over.Goals as goal

pub open_check-requires : goal.open_check-requires
open_check-requires g c = record {
  openable = c.requires.openable;
  open_scratch = lends _ _ _ _ _ _ _ _ _ _ _ _ c.requires.openable.ready.limits c.words64-flow.ensures c.words64-mail.ensures c.words16-firsts.ensures c.words16-nexts.ensures c.words64-may.ensures c.words64-held.ensures c.words32-codes.ensures c.requires.names_fit (omega arith) c.requires.rows_fit.0 c.requires.rows_fit.1;
}

pub words64-flow-requires : goal.words64-flow-requires
words64-flow-requires g c = words_fit _ 8 c.requires.lengths.0 (omega arith)

pub words64-mail-requires : goal.words64-mail-requires
words64-mail-requires g c = words_fit _ 8 c.requires.lengths.0 (omega arith)

pub words16-nexts-requires : goal.words16-nexts-requires
words16-nexts-requires g c = words_fit _ 2 c.requires.lengths.1.1 (omega arith)

pub words64-may-requires : goal.words64-may-requires
words64-may-requires g c = words_fit _ 8 c.requires.lengths.1.0 (omega arith)

pub words64-held-requires : goal.words64-held-requires
words64-held-requires g c = words_fit _ 8 c.requires.lengths.1.0 (omega arith)

pub words32-codes-requires : goal.words32-codes-requires
words32-codes-requires g c = words_fit _ 4 c.requires.lengths.1.1 (omega arith)

pub whole_as_slice-open_check : goal.whole_as_slice-open_check
whole_as_slice-open_check g c = words_fit _ 8 c.requires.lengths.0 (omega arith)

pub whole_as_slice-open_check-2 : goal.whole_as_slice-open_check-2
whole_as_slice-open_check-2 g c = words_fit _ 8 c.requires.lengths.0 (omega arith)

pub whole_as_slice-open_check-3 : goal.whole_as_slice-open_check-3
whole_as_slice-open_check-3 g c = words_fit _ 2 c.requires.lengths.1.1 (omega arith)

pub whole_as_slice-open_check-4 : goal.whole_as_slice-open_check-4
whole_as_slice-open_check-4 g c = words_fit _ 8 c.requires.lengths.1.0 (omega arith)

pub whole_as_slice-open_check-5 : goal.whole_as_slice-open_check-5
whole_as_slice-open_check-5 g c = words_fit _ 8 c.requires.lengths.1.0 (omega arith)

pub whole_as_slice-open_check-6 : goal.whole_as_slice-open_check-6
whole_as_slice-open_check-6 g c = words_fit _ 4 c.requires.lengths.1.1 (omega arith)
