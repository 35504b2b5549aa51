use Prim.Native.Nat.{◌+◌, ◌-◌, ◌≤◌}
use mathlib.Core.List.{[]}
use lib.ListN.{get_or}
use Rattle.model.specs.Index.{gather}
use Rattle.model.specs.Rows.{program, case}
use Rattle.model.specs.Tables.{tables, state_at}
use Rattle.rules.specs.Added.{Added}
use Rattle.plain_rules.proofs.Branches.{BranchAt}
use Rattle.plain_rules.specs.Heads.{case_turn}
use Rattle.plain_rules.proofs.case_rules.Given as goal

abbrev pub invariant-loop-b : goal.invariant-loop-b
invariant-loop-b l = Added case l.initial.tos [] 0 l.tos [] l.n (λ e. gather 0 l.b (case_turn (program l.ws l.s) (tables l.ws l.s) (state_at (tables l.ws l.s) l.i) (get_or l.branches l.i 0) (l.r + 2) e)) × BranchAt (program l.ws l.s) (l.r + 2) l.m l.b l.q × (l.b ≤ l.m) × (l.n ≤ l.b)

abbrev pub decreases-loop-b : goal.decreases-loop-b
decreases-loop-b l = l.m - l.b
