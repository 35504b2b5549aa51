use Prim.Native.Nat.{◌+◌, ◌-◌, ◌≤◌}
use mathlib.Core.List.{[]}
use Rattle.model.specs.Index.{gather}
use Rattle.model.specs.Rows.{program, call}
use Rattle.model.specs.Tables.{tables, state_at}
use Rattle.rules.specs.Added.{Added}
use Rattle.plain_rules.specs.Heads.{call_turn}
use Rattle.plain_rules.proofs.call_rules.Given as goal

abbrev pub invariant-loop-j : goal.invariant-loop-j
invariant-loop-j l = Added call l.initial.tos [] 0 l.tos [] l.n (λ e. gather l.from l.j (call_turn (program l.ws l.s) (tables l.ws l.s) (state_at (tables l.ws l.s) l.i) l.count e)) × (l.from ≤ l.j) × (l.j ≤ l.to) × (l.n + l.from ≤ l.j)

abbrev pub decreases-loop-j : goal.decreases-loop-j
decreases-loop-j l = l.to - l.j
