use Prim.Native.Nat.{◌-◌, ◌≤◌}
use mathlib.Core.Path.{◌≡◌}
use lib.ListN.{length}
use Rattle.model.specs.Rows.{program}
use Rattle.model.specs.Tables.{tables}
use Rattle.matching_names.specs.Names.{FittingBefore}
use Rattle.matching_names.proofs.fill_fitting.Given as goal

abbrev pub invariant-loop-q : goal.invariant-loop-q
invariant-loop-q l = FittingBefore (program l.ws l.s) (tables l.ws l.s) l.may l.fitting l.q × (length l.fitting ≡ length l.initial.fitting) × (l.q ≤ l.q-end)

abbrev pub decreases-loop-q : goal.decreases-loop-q
decreases-loop-q l = l.q-end - l.q
