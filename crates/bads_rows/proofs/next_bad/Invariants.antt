-- The loop's invariant: at row i stands another item, or the bad's last row.
use Prim.Native.Nat.{ℕ, ◌+◌, ◌-◌, ◌≤◌}
use mathlib.Core.Path.{◌≡◌}
use mathlib.Core.List.{[], ◌∷◌}
use Rattle.model.specs.Reader.{past, read}
use Rattle.model.specs.Rows.{program}
use Rattle.model.specs.Bads.{further, bad_step, bad_rows}
use Rattle.bads_rows.specs.Items.{bad_end}
use Rattle.bads_rows.proofs.next_bad.Given as goal

abbrev pub invariant-loop-s : goal.invariant-loop-s
invariant-loop-s l = ((m : ℕ) × (read (bad_step (program l.ws l.s)) (bad_rows l.ws l.s) m (further ∷ []) l.i ≡ past (bad_end (program l.ws l.s) (bad_rows l.ws l.s) l.r))) × (l.i ≤ l.s.badrows + 3)

abbrev pub decreases-loop-s : goal.decreases-loop-s
decreases-loop-s l = l.s.badrows + 3 - l.i
