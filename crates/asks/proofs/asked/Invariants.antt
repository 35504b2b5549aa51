use Prim.Native.Nat.{◌+◌, ◌-◌, ◌≤◌}
use Rattle.model.specs.Words.{right}
use Rattle.model.specs.Rows.{program, num}
use Rattle.model.specs.Tables.{tables, each}
use Rattle.branches.specs.Taken.{code_closed}
use Rattle.asks.specs.Asks.{asks}
use Rattle.asks.proofs.Ranges.{Worst}
use Rattle.asks.proofs.asked.Given as goal

abbrev pub invariant-loop-j : goal.invariant-loop-j
invariant-loop-j l = Worst (λ there. each (tables l.ws l.s).flow (num (program l.ws l.s) (l.r + 1)) (λ x. code_closed (asks (program l.ws l.s) (tables l.ws l.s) l.r x) there)) (λ i. asks (program l.ws l.s) (tables l.ws l.s) l.r (right (tables l.ws l.s).flow i)) l.to l.j l.worst × (l.to ≤ 65536)
