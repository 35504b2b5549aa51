use native.Mathlib.Omega.{arith}
use Rattle.values.specs.Values.{width}
use Rattle.closure_sized.proofs.Opening.{empty_sets, sets_fit}
use Rattle.checks_sized.proofs.fitting_over.Goals as goal

pub words_verdict-requires : goal.words_verdict-requires
words_verdict-requires g c =
    let s = c.args.s in
    record {
      parts_whole = c.requires.parts_whole;
      unfitted = record { empty = empty_sets _ _ _ c.words64-fitting.ensures; room = sets_fit _ _ s.rows (width s.names) _ _ c.words64-fitting.ensures (omega arith) (omega arith) c.requires.words_bound.0 };
    }
