use Prim.Native.Nat.{◌-◌}
use native.Mathlib.Omega.{arith}
use mathlib.Core.Path.{refl, sym, ◌∙◌}
use Rattle.bads_rows.proofs.BadRows.{heads_over, heads_next, bad_inside}
use Rattle.bads_rows.proofs.Walking.{inside}
use borrow.Author.Rules.{rules}
use Rattle.bads_rows.proofs.past_heads.Goals as goal

pub loop-s-init : goal.loop-s-init
loop-s-init c = refl

pub returns-then-bad_tag-ne-TAG_ARGUMENT : goal.returns-then-bad_tag-ne-TAG_ARGUMENT
returns-then-bad_tag-ne-TAG_ARGUMENT c = sym (c.loop-s.invariant ∙ heads_over _ _ (λ z. c.if-bad_tag-ne-TAG_ARGUMENT.true (c.bad_tag.ensures ∙ z)))

pub overflow_add-i : goal.overflow_add-i
overflow_add-i c = let h = bad_inside _ _ _ _ c.bad_tag.ensures (omega (arith, c.if-bad_tag-ne-TAG_ARGUMENT.false)) in search rules

pub loop-s-smaller : goal.loop-s-smaller
loop-s-smaller c = let h = bad_inside _ _ _ _ c.bad_tag.ensures (omega (arith, c.if-bad_tag-ne-TAG_ARGUMENT.false)) in search rules

pub loop-s-preserved : goal.loop-s-preserved
loop-s-preserved c = c.loop-s.invariant ∙ heads_next _ _ (inside _ _ _ (omega (arith, c.bad_tag.ensures, c.if-bad_tag-ne-TAG_ARGUMENT.false))) (sym c.bad_tag.ensures ∙ c.if-bad_tag-ne-TAG_ARGUMENT.false)
