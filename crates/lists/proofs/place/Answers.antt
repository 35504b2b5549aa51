use mathlib.Core.Path.{sym, ◌∙◌}
use borrow.Author.Rules.{rules}
use Rattle.model.specs.Words.{columns}
use Rattle.lists.specs.Lists.{listed}
use Rattle.lists.proofs.Halving.{between_all, between_up, between_down}
use Rattle.lists.proofs.Rising.{under_before, between_place}
use Rattle.lists.proofs.place.Goals as goal

pub loop-low-init : goal.loop-low-init
unfolding listed columns
loop-low-init c = between_all 0 _ _ (search rules)

pub overflow_add-mid : goal.overflow_add-mid
unfolding listed columns
overflow_add-mid c = search rules

pub overflow_add-low : goal.overflow_add-low
unfolding listed columns
overflow_add-low c = search rules

pub loop-low-preserved-then-under : goal.loop-low-preserved-then-under
loop-low-preserved-then-under c = between_up _ _ _ (under_before _ _ _ c.requires.ascending) _ _ _ c.loop-low.invariant (search rules) (search rules) (sym c.under.ensures ∙ c.if-under.true)

pub loop-low-preserved : goal.loop-low-preserved
loop-low-preserved c = between_down _ _ _ (under_before _ _ _ c.requires.ascending) _ _ _ c.loop-low.invariant (search rules) (search rules) (sym c.under.ensures ∙ c.if-under.false)

pub returns : goal.returns
returns c = between_place _ _ _ _ _ c.loop-low.invariant (search rules)
