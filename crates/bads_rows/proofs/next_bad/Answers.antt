use Prim.Native.Nat.{◌-◌}
use native.Mathlib.Omega.{arith}
use mathlib.Core.Path.{sym, ◌∙◌}
use Rattle.bads_rows.proofs.BadRows.{bad_first, bad_next, bad_last, bad_inside}
use Rattle.bads_rows.proofs.Walking.{inside, stands_inside}
use borrow.Author.Rules.{rules}
use Rattle.bads_rows.proofs.next_bad.Goals as goal

pub next_item-i-requires : goal.next_item-i-requires
next_item-i-requires c = record { whole = c.requires.whole; r_le_badrows = stands_inside _ _ _ c.requires.bad_stands }

pub loop-s-init : goal.loop-s-init
loop-s-init c = (bad_first _ _ (inside _ _) _ _ _ _ c.next_item-i.ensures.value c.requires.bad_stands, search rules)

pub returns-then-bad_tag-ne-TAG_CLASS : goal.returns-then-bad_tag-ne-TAG_CLASS
returns-then-bad_tag-ne-TAG_CLASS c = sym (bad_last _ _ (inside _ _) _ _ _ c.loop-s.invariant.0.1 (λ z. c.if-bad_tag-ne-TAG_CLASS.true (c.bad_tag.ensures ∙ z)))

pub next_item-i-requires-in-loop-s : goal.next_item-i-requires-in-loop-s
next_item-i-requires-in-loop-s c = let h = bad_inside _ _ _ _ c.bad_tag.ensures (omega (arith, c.if-bad_tag-ne-TAG_CLASS.false)) in search rules

pub loop-s-smaller : goal.loop-s-smaller
loop-s-smaller c = let h = bad_inside _ _ _ _ c.bad_tag.ensures (omega (arith, c.if-bad_tag-ne-TAG_CLASS.false)) in search rules

pub loop-s-preserved : goal.loop-s-preserved
loop-s-preserved c = (bad_next _ _ (inside _ _) _ _ _ _ c.next_item-i-in-loop-s.ensures.value c.loop-s.invariant.0.1 (sym c.bad_tag.ensures ∙ c.if-bad_tag-ne-TAG_CLASS.false), search rules)
