use Prim.Native.Nat.{◌+◌, ◌-◌, ◌≤◌}
use Rattle.model.specs.Index.{gather}
use Rattle.model.specs.Rows.{program, spawn}
use Rattle.model.specs.Tables.{tables, state_at}
use Rattle.rules.specs.Added.{Added}
use Rattle.plain_rules.specs.Heads.{spawn_turn}
use Rattle.plain_rules.proofs.spawn_rules.Given as goal

abbrev pub invariant-loop-j : goal.invariant-loop-j
invariant-loop-j l = Added spawn l.initial.tos l.initial.others 0 l.tos l.others l.n (λ e. gather l.from l.j (spawn_turn (program l.ws l.s) (tables l.ws l.s) (state_at (tables l.ws l.s) l.i) l.next e)) × (l.from ≤ l.j) × (l.j ≤ l.to) × (l.n + l.from ≤ l.j)

abbrev pub decreases-loop-j : goal.decreases-loop-j
decreases-loop-j l = l.to - l.j
