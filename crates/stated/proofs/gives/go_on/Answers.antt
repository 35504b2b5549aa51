use Prim.Native.Nat.{◌-◌}
use mathlib.Core.Path.{refl, sym, ◌∙◌}
use borrow.Author.Tests.{lt-ltb, le-ltb}
use Rattle.model.proofs.Index.{all_hit, all_miss, all_end}
use Rattle.stated.proofs.Giving.{goes_told}
use borrow.Author.Rules.{rules}
use Rattle.stated.proofs.gives.go_on.Goals as goal

pub loop-j-init : goal.loop-j-init
loop-j-init c = refl

pub returns-then-onward-s : goal.returns-then-onward-s
returns-then-onward-s c = sym (c.loop-j.invariant ∙ all_miss _ _ _ (search rules) (sym (goes_told _ _ _ _ _ c.onward.ensures) ∙ le-ltb _ _ c.if-onward-s.true))

pub loop-j-preserved : goal.loop-j-preserved
loop-j-preserved c = c.loop-j.invariant ∙ all_hit _ _ _ (search rules) (sym (goes_told _ _ _ _ _ c.onward.ensures) ∙ lt-ltb _ _ c.if-onward-s.false)

pub returns : goal.returns
returns c = sym (c.loop-j.invariant ∙ all_end _ _ _ (search rules))
