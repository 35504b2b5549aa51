use Prim.Native.Nat.{◌≤◌}
use mathlib.Core.Path.{◌≡◌}
use lib.ListN.{length}
use Rattle.matching_sets.specs.Sets.{FilledFrom}
use Rattle.matching_sets.proofs.patterns.fill_patterns.Given as goal

abbrev pub invariant-loop-q : goal.invariant-loop-q
invariant-loop-q l = (l.q ≤ l.s.rows) × FilledFrom l.ws l.s l.may l.held l.q × ((length l.may ≡ length l.initial.may) × (length l.held ≡ length l.initial.held))
