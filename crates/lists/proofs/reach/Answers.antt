use mathlib.Core.Path.{refl}
use borrow.Author.Rules.{rules}
use Rattle.lists.proofs.Reaching.{reach_here, reach_on, reach_end}
use Rattle.lists.proofs.reach.Goals as goal

pub loop-k-init : goal.loop-k-init
loop-k-init c = (refl, search rules)

pub left-requires : goal.left-requires
left-requires c = c.requires.held

pub returns-then-left-a : goal.returns-then-left-a
returns-then-left-a c = reach_here _ _ _ _ _ c.loop-k.invariant.0 _ (search rules) c.left.ensures c.if-left-a.true

pub loop-k-preserved : goal.loop-k-preserved
loop-k-preserved c = (reach_on _ _ _ _ _ c.loop-k.invariant.0 _ (search rules) c.left.ensures c.if-left-a.false, search rules)

pub returns : goal.returns
returns c = reach_end _ _ _ _ _ c.loop-k.invariant.0 (search rules)
