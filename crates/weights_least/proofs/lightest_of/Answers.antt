use mathlib.Core.Path.{◌≡◌}
use mathlib.Core.Logic.{inl, inr}
use Rattle.ceilings.proofs.Cells.{row_in}
use Rattle.weights_least.proofs.Lightest.{lightest_one, lightest_next}
use borrow.Author.Rules.{rules}
use Rattle.weights_least.proofs.lightest_of.Goals as goal
use Rattle.weights_least.proofs.lightest_of.Goals.{then-here-least, else-here-least}

pub weight-least-requires : goal.weight-least-requires
weight-least-requires c = record { k_lt_lines = search rules; row = row_in _ c.args.to _ _ (search rules) (search rules) }

pub loop-x-init : goal.loop-x-init
loop-x-init c = (lightest_one _ _, c.weight-least.ensures.value, search rules)

pub weight-here-requires : goal.weight-here-requires
weight-here-requires c = record { k_lt_lines = search rules; row = row_in _ c.args.to _ _ (search rules) (search rules) }

pub loop-x-preserved : goal.loop-x-preserved
loop-x-preserved c = let n = lightest_next _ _ c.loop-x.x c.loop-x.best _ _ c.loop-x.invariant.0 c.weight-here.ensures.value c.loop-x.invariant.1 _ _ (elim c.if-here-least.branch [ then-here-least w ↦ inl (w.if-here-least.true, w.best-is, w.least-is) | else-here-least w ↦ inr (w.if-here-least.false, w.best-is, w.least-is) ]) in (n.0, n.1, search rules)

pub returns : goal.returns
returns c = let e : c.loop-x.x ≡ c.args.to = search rules in rw e at c.loop-x.invariant.0
