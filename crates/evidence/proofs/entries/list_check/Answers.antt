use native.Mathlib.Omega.{arith}
use mathlib.Core.Path.{refl, ◌∙◌}
use Rattle.model.specs.Words.{columns}
use Rattle.lists.specs.Lists.{listed}
use Rattle.evidence.proofs.Lists.{misplaced_hit, misplaced_miss, misplaced_end}
use Rattle.evidence.proofs.Tables.{list_refused, list_passed}
use Rattle.evidence.proofs.entries.list_check.Goals as goal

pub loop-i-init : goal.loop-i-init
loop-i-init c = refl

pub returns-then-not-in_place : goal.returns-then-not-in_place
unfolding listed columns
returns-then-not-in_place c = let l = c.loop-i in
    list_refused _ _ _ _ _ _ (l.invariant ∙ misplaced_hit _ _ _ _ _ _ c.in_place.ensures c.loop-i-test.true c.if-not-in_place.true) c.loop-i-test.true

pub loop-i-preserved : goal.loop-i-preserved
unfolding listed columns
loop-i-preserved c = let l = c.loop-i in
    l.invariant ∙ misplaced_miss _ _ _ _ _ _ c.in_place.ensures c.loop-i-test.true c.if-not-in_place.false

pub returns : goal.returns
unfolding listed columns
returns c = let l = c.loop-i in
    list_passed _ _ _ _ _ _ (l.invariant ∙ misplaced_end _ _ _ _ _ c.loop-i-test.false) (omega (arith, c.loop-i-test.false))
