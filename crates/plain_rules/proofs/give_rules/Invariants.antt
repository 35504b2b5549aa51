use Prim.Native.Nat.{◌+◌, ◌-◌, ◌≤◌}
use mathlib.Core.List.{[]}
use Rattle.model.specs.Index.{gather}
use Rattle.model.specs.Rows.{program, give}
use Rattle.model.specs.Tables.{tables}
use Rattle.rules.specs.Added.{Added}
use Rattle.plain_rules.specs.Heads.{give_turn}
use Rattle.plain_rules.proofs.give_rules.Given as goal

abbrev pub invariant-loop-j : goal.invariant-loop-j
invariant-loop-j l = Added give l.initial.tos [] 0 l.tos [] l.n (λ k. gather l.from l.j (give_turn (program l.ws l.s) (tables l.ws l.s) k)) × (l.from ≤ l.j) × (l.j ≤ l.to) × (l.n + l.from ≤ l.j)

abbrev pub decreases-loop-j : goal.decreases-loop-j
decreases-loop-j l = l.to - l.j
