use Rattle.model.specs.Rows.{program}
use Rattle.model.specs.Tables.{tables}
use Rattle.letter_sets.specs.Sets.{is_allowed}
use Rattle.letter_sets.proofs.Putting.{PutUpto}
use Rattle.letter_sets.proofs.put_allowed.Given as goal

abbrev pub invariant-loop-y : goal.invariant-loop-y
invariant-loop-y l = PutUpto l.w (is_allowed (program l.ws l.s) (tables l.ws l.s) l.names l.codes l.j) l.from l.y l.initial.letters l.letters
