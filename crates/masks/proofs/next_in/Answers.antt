use mathlib.Core.Path.{◌≡◌, refl, sym, ◌∙◌}
use Rattle.model.proofs.Index.{first_end}
use Rattle.masks.proofs.Masks.{next_hit, next_miss}
use borrow.Author.Rules.{rules}
use Rattle.masks.proofs.next_in.Goals as goal

pub loop-i-init : goal.loop-i-init
loop-i-init c = (refl, search rules)

pub returns-then-left-ne0 : goal.returns-then-left-ne0
returns-then-left-ne0 c = next_hit _ _ c.word.result (search rules) c.word.ensures _ (search rules) c.if-left-ne0.true c.low_bit.ensures.0 ∙ sym c.loop-i.invariant.0

pub loop-i-preserved : goal.loop-i-preserved
loop-i-preserved c = (c.loop-i.invariant.0 ∙ next_miss _ _ c.word.result (search rules) c.word.ensures c.if-left-ne0.false, search rules)

pub returns : goal.returns
returns c = let e : c.loop-i.i ≡ 256 = search rules in sym (c.loop-i.invariant.0 ∙ first_end _ _ _ (search rules) ∙ e)
