use mathlib.Core.Path.{◌≡◌}
use Rattle.model.specs.Rows.{program}
use Rattle.lists.specs.Lists.{listed, thirds}
use Rattle.evidence.specs.Ranges.{misplaced}
use Rattle.evidence.proofs.entries.list_check.Given as goal

abbrev pub invariant-loop-i : goal.invariant-loop-i
invariant-loop-i l = misplaced (program l.ws l.s) l.table (listed l.ws l.list) (thirds l.ws l.list) 0 ≡ misplaced (program l.ws l.s) l.table (listed l.ws l.list) (thirds l.ws l.list) l.i
