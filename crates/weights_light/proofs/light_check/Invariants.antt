-- The loop's invariant: the first bad that is not settled is the first of those from bad j on, which stand from row r.
use Prim.Native.Nat.{◌-◌, ◌≤◌}
use mathlib.Core.Path.{◌≡◌}
use lib.ListN.{length}
use Rattle.model.specs.Index.{first}
use Rattle.bads_rows.proofs.Walking.{BadsWalked}
use Rattle.weights_light.proofs.Settled.{unsettled}
use Rattle.weights_light.proofs.light_check.Given as goal

abbrev pub invariant-loop-j : goal.invariant-loop-j
invariant-loop-j l = (first 0 l.s.bads (unsettled l.ws l.s l.n) ≡ first l.j l.s.bads (unsettled l.ws l.s l.n)) × BadsWalked l.ws l.s l.j l.r × (l.j ≤ l.s.bads) × (length l.counts ≡ length l.initial.counts)

abbrev pub decreases-loop-j : goal.decreases-loop-j
decreases-loop-j l = l.s.bads - l.j
