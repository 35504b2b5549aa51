-- The loop's invariant: the heads from row i on end where those from row r on do.
use Prim.Native.Nat.{◌-◌}
use mathlib.Core.Path.{◌≡◌}
use Rattle.model.specs.Bads.{bad_rows, past_heads_of}
use Rattle.bads_rows.proofs.past_heads.Given as goal

abbrev pub invariant-loop-s : goal.invariant-loop-s
invariant-loop-s l = past_heads_of (bad_rows l.ws l.s) l.r ≡ past_heads_of (bad_rows l.ws l.s) l.i

abbrev pub decreases-loop-s : goal.decreases-loop-s
decreases-loop-s l = l.s.badrows - l.i
