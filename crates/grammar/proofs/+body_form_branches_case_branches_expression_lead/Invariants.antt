use Prim.Native.Nat.{◌+◌, ◌*◌, ◌-◌, ◌≤◌}
use mathlib.Core.Path.{◌≡◌}
use Rattle.model.specs.Rows.{program, branch_items}
use Rattle.program.specs.Rows.{from}
use Rattle.grammar.proofs.+body_form_branches_case_branches_expression_lead.Given as goal

abbrev pub decreases-body_form : goal.decreases-body_form
decreases-body_form l = 4 * (l.s.rows - l.r) + 1

abbrev pub decreases-branches : goal.decreases-branches
decreases-branches l = 4 * (l.s.rows - l.r) + 1

abbrev pub decreases-case_branches : goal.decreases-case_branches
decreases-case_branches l = 4 * (l.s.rows - l.r) + 1

abbrev pub decreases-expression : goal.decreases-expression
decreases-expression l = 4 * (l.s.rows - l.r) + 3

abbrev pub decreases-lead : goal.decreases-lead
decreases-lead l = 4 * (l.s.rows - l.r) + 2

abbrev pub invariant-branches-loop : goal.invariant-branches-loop
invariant-branches-loop l =
    (l.r ≤ l.q) × (l.q ≤ l.s.rows) × (from (program l.ws l.s) (branch_items l.n) l.r ≡ from (program l.ws l.s) (branch_items (l.n - l.counter)) l.q)
