use Rattle.model.specs.Rows.{program}
use Rattle.matching.proofs.Chains.{Chained}
use Rattle.matching.proofs.builds.fill_builds.Given as goal

abbrev pub invariant-loop-r : goal.invariant-loop-r
invariant-loop-r l = Chained (program l.ws l.s) l.firsts l.nexts l.r
