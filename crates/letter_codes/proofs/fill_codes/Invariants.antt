use mathlib.Core.Path.{◌≡◌}
use lib.ListN.{length}
use Rattle.model.specs.Rows.{program}
use Rattle.model.specs.Tables.{tables}
use Rattle.lists.specs.Lists.{range_from}
use Rattle.letter_codes.proofs.Filling.{Filled}
use Rattle.letter_codes.proofs.fill_codes.Given as goal

abbrev pub invariant-loop-c : goal.invariant-loop-c
invariant-loop-c l =
    Filled (program l.ws l.s) (tables l.ws l.s) l.most l.c l.n l.letter_at l.codes × (l.e ≡ range_from (tables l.ws l.s).mail l.c) × (length l.letter_at ≡ length l.initial.letter_at) × (length l.codes ≡ length l.initial.codes)
