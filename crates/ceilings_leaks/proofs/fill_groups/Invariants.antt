-- The loop's invariant: the sets of the states before i are in the table, their rules and rows are counted, and the rules
-- are kept where all of them are.
use Prim.Native.Nat.{◌-◌, ◌≤◌, ◌<◌}
use mathlib.Core.Path.{◌≡◌}
use mathlib.Core.Bool.{true}
use lib.ListN.{length}
use Rattle.model.specs.Rows.{program}
use Rattle.model.specs.Tables.{tables}
use Rattle.system_totals.proofs.Lined.{Summed}
use Rattle.system_totals.proofs.Walk.{Walk}
use Rattle.kept_rules.specs.Kept.{KeptRules}
use Rattle.ceilings_groups.specs.Groups.{GroupsUpto}
use Rattle.ceilings_leaks.proofs.fill_groups.Given as goal

abbrev pub invariant-loop-i : goal.invariant-loop-i
invariant-loop-i l =
    GroupsUpto (program l.ws l.s) (tables l.ws l.s) l.limits l.s.ceilings l.s.states l.n l.i l.group × Summed (program l.ws l.s) (tables l.ws l.s) l.i l.rules l.rows × Walk l.initial.at l.initial.tos l.initial.others l.at l.tos l.others × (l.i ≤ l.s.states) × (length l.group ≡ length l.initial.group) × KeptRules (program l.ws l.s) (tables l.ws l.s) l.i l.kept l.first_at l.tos l.others × (l.kept.used ≤ l.spare) × (l.kept.all ≡ true → l.s.states < length l.first_at) × (length l.first_at ≡ length l.initial.first_at)

abbrev pub decreases-loop-i : goal.decreases-loop-i
decreases-loop-i l = l.s.states - l.i
