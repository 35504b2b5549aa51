use Rattle.model.specs.Rows.{program}
use Rattle.model.specs.Tables.{tables}
use Rattle.system_letters.specs.Letters.{letter_width_of}
use Rattle.letter_sets.specs.Sets.{in_allowed}
use Rattle.letter_sets.proofs.Putting.{PutUpto}
use Rattle.letter_sets.proofs.fill_allowed.Given as goal

abbrev pub invariant-loop-j : goal.invariant-loop-j
invariant-loop-j l = PutUpto (letter_width_of (program l.ws l.s) (tables l.ws l.s)) (in_allowed (program l.ws l.s) (tables l.ws l.s) l.names l.codes) 0 l.j l.initial.letters l.letters
