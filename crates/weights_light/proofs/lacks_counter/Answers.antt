use native.Mathlib.Omega.{arith}
use mathlib.Core.Path.{refl, sym, ◌∙◌}
use Rattle.bads_rows.proofs.BadRows.{bad_inside}
use Rattle.bads_rows.proofs.Walking.{row_room}
use Rattle.weights_least.proofs.Items.{without_over}
use Rattle.weights_light.proofs.Settled.{without_here, without_next}
use borrow.Author.Rules.{rules}
use Rattle.weights_light.proofs.lacks_counter.Goals as goal

pub loop-s-init : goal.loop-s-init
loop-s-init c = (refl, search rules)

pub returns-then-bad_tag-ne-TAG_CLASS : goal.returns-then-bad_tag-ne-TAG_CLASS
returns-then-bad_tag-ne-TAG_CLASS c = let a = c.args in sym (c.loop-s.invariant.0 ∙ without_over a.ws.now a.s _ _ c.bad_tag.ensures c.if-bad_tag-ne-TAG_CLASS.true)

pub offset_bounds-froms-i : goal.offset_bounds-froms-i
offset_bounds-froms-i c = let a = c.args in let h = bad_inside _ _ _ _ c.bad_tag.ensures (omega (arith, c.if-bad_tag-ne-TAG_CLASS.false)) in let g = row_room a.ws.now a.s a.froms.now a.tos.now c.requires.items_counted c.loop-s.i h in search rules

pub bounds-froms-i : goal.bounds-froms-i
bounds-froms-i c = let a = c.args in let h = bad_inside _ _ _ _ c.bad_tag.ensures (omega (arith, c.if-bad_tag-ne-TAG_CLASS.false)) in (row_room a.ws.now a.s a.froms.now a.tos.now c.requires.items_counted c.loop-s.i h).0

pub offset_bounds-tos-i : goal.offset_bounds-tos-i
offset_bounds-tos-i c = let a = c.args in let h = bad_inside _ _ _ _ c.bad_tag.ensures (omega (arith, c.if-bad_tag-ne-TAG_CLASS.false)) in let g = row_room a.ws.now a.s a.froms.now a.tos.now c.requires.items_counted c.loop-s.i h in search rules

pub bounds-tos-i : goal.bounds-tos-i
bounds-tos-i c = let a = c.args in let h = bad_inside _ _ _ _ c.bad_tag.ensures (omega (arith, c.if-bad_tag-ne-TAG_CLASS.false)) in (row_room a.ws.now a.s a.froms.now a.tos.now c.requires.items_counted c.loop-s.i h).1

pub returns-then-froms-i : goal.returns-then-froms-i
returns-then-froms-i c = let a = c.args in let h = bad_inside _ _ _ _ c.bad_tag.ensures (omega (arith, c.if-bad_tag-ne-TAG_CLASS.false)) in without_here a.ws.now a.s a.froms.now a.tos.now c.requires.items_counted c.loop-s.i h _ c.bad_tag.ensures c.if-bad_tag-ne-TAG_CLASS.false c.if-froms-i.true ∙ sym c.loop-s.invariant.0

pub next_item-i-requires : goal.next_item-i-requires
next_item-i-requires c = let h = bad_inside _ _ _ _ c.bad_tag.ensures (omega (arith, c.if-bad_tag-ne-TAG_CLASS.false)) in search rules

pub loop-s-smaller : goal.loop-s-smaller
loop-s-smaller c = let h = bad_inside _ _ _ _ c.bad_tag.ensures (omega (arith, c.if-bad_tag-ne-TAG_CLASS.false)) in search rules

pub loop-s-preserved : goal.loop-s-preserved
loop-s-preserved c = let a = c.args in let h = bad_inside _ _ _ _ c.bad_tag.ensures (omega (arith, c.if-bad_tag-ne-TAG_CLASS.false)) in (c.loop-s.invariant.0 ∙ without_next a.ws.now a.s a.froms.now a.tos.now c.requires.items_counted c.loop-s.i h _ c.bad_tag.ensures c.if-bad_tag-ne-TAG_CLASS.false _ c.next_item-i.ensures.value c.if-froms-i.false, search rules)
