use Rattle.model.specs.Rows.{program}
use Rattle.model.specs.Tables.{tables}
use Rattle.ascending.specs.Numbers.{Added}
use Rattle.letter_codes.specs.Codes.{AllowedIn}
use Rattle.letter_codes.proofs.add_entries.Given as goal

abbrev pub invariant-loop-j : goal.invariant-loop-j
invariant-loop-j l =
    Added (AllowedIn (program l.ws l.s) (tables l.ws l.s) l.first l.j) l.most l.n l.n l.initial.codes l.m l.codes
