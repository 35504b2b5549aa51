-- The loop's invariant: the items from row i on, put on the counts at hand, give what all items of the pass give.
use Prim.Native.Nat.{◌+◌, ◌*◌, ◌-◌, ◌≤◌}
use mathlib.Core.Path.{◌≡◌}
use lib.ListN.{length}
use Rattle.model.specs.Rows.{program}
use Rattle.model.specs.Tables.{tables}
use Rattle.model.specs.Bads.{bad_rows}
use Rattle.model.specs.Weights.{fill_those}
use Rattle.bads_rows.specs.Items.{items_at}
use Rattle.weights_least.specs.Least.{counters_of, line_of, counts_in, in_pass, AllCounted, most_put, Grown}
use Rattle.weights_least.proofs.put_items.Given as goal

abbrev pub invariant-loop-s : goal.invariant-loop-s
invariant-loop-s l =
    (fill_those (program l.ws l.s) (tables l.ws l.s) (line_of l.ws l.s l.k) (in_pass l.single) (items_at (bad_rows l.ws l.s) l.r) (counts_in (counters_of l.ws l.s) l.initial.counts) ≡ fill_those (program l.ws l.s) (tables l.ws l.s) (line_of l.ws l.s l.k) (in_pass l.single) (items_at (bad_rows l.ws l.s) l.i) (counts_in (counters_of l.ws l.s) l.counts)) ×
    Grown (counters_of l.ws l.s) (line_of l.ws l.s l.k) (counts_in (counters_of l.ws l.s) l.initial.counts) (counts_in (counters_of l.ws l.s) l.counts) l.total ×
    AllCounted l.ws l.s l.i × (l.total ≤ l.i * most_put) × (l.i ≤ l.s.badrows + 3) × (length l.counts ≡ length l.initial.counts)

abbrev pub decreases-loop-s : goal.decreases-loop-s
decreases-loop-s l = l.s.badrows + 3 - l.i
