use lib.ListN.{get_or}
use Rattle.bits.specs.Bits.{Filled}
use Rattle.rule_tables.proofs.copy_words.Given as goal

abbrev pub invariant-loop-j : goal.invariant-loop-j
invariant-loop-j l = Filled l.initial.t l.t l.p l.j (λ x. get_or l.a x 0)
