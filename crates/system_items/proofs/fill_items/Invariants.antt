-- The loop's invariant: the rows before r are filled in.
use Prim.Native.Nat.{◌-◌, ◌≤◌}
use mathlib.Core.Path.{◌≡◌}
use lib.ListN.{length}
use Rattle.system_items.proofs.Table.{Filled}
use Rattle.system_items.proofs.fill_items.Given as goal

abbrev pub invariant-loop-r : goal.invariant-loop-r
invariant-loop-r l = Filled l.ws l.s l.r l.froms l.tos × (l.r ≤ l.s.badrows) × (length l.froms ≡ length l.initial.froms) × (length l.tos ≡ length l.initial.tos)

abbrev pub decreases-loop-r : goal.decreases-loop-r
decreases-loop-r l = l.s.badrows - l.r
