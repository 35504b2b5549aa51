use native.Mathlib.Omega.{arith}
use mathlib.Core.Path.{refl, ◌∙◌}
use lib.ListN.{length-set}
use Rattle.ceilings.proofs.Cells.{row_in}
use Rattle.ceilings_met.proofs.Filled.{filled_none, filled_more}
use Rattle.ceilings_met.proofs.Sums.{sum_none, sum_more, all_filled}
use borrow.Author.Rules.{rules}
use Rattle.ceilings_met.proofs.fill_sums.Goals as goal

pub loop-x-init : goal.loop-x-init
loop-x-init c = (filled_none _ c.args.sums.now, sum_none _, search rules, search rules, refl)

pub sum_with-sum-requires : goal.sum_with-sum-requires
sum_with-sum-requires c = record {
  k_lt_ceilings = search rules;
  row = row_in c.args.limits.now c.args.n c.args.s.ceilings c.loop-x.x (search rules) (search rules);
  x_lt_max_counters = search rules;
}

pub loop-x-preserved : goal.loop-x-preserved
loop-x-preserved c = (filled_more _ c.loop-x.x c.loop-x.sum c.loop-x.sums c.loop-x.invariant.0 (search rules) c.loop-x.invariant.1, sum_more _ c.loop-x.x c.loop-x.sum c.sum_with-sum.result c.loop-x.invariant.1 c.sum_with-sum.ensures.value, omega (arith, c.sum_with-sum.ensures.upper_bound, c.loop-x.invariant.2), search rules, length-set c.loop-x.sums c.loop-x.x _ ∙ c.loop-x.invariant.4)

pub returns : goal.returns
returns c = all_filled _ c.loop-x.x c.args.n c.loop-x.sum c.loop-x.sums c.loop-x.invariant.0 (search rules) (search rules) c.loop-x.invariant.1
