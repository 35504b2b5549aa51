use native.Mathlib.Omega.{arith}
use mathlib.Core.Path.{refl}
use Rattle.bads_rows.proofs.BadRows.{bad_inside}
use Rattle.ceilings_met.proofs.Meeting.{meets_end, meets_not, meets_next}
use borrow.Author.Rules.{rules}
use Rattle.ceilings_met.proofs.meets.Goals as goal

pub loop-s-init : goal.loop-s-init
loop-s-init c = (refl, search rules)

pub returns-then-bad_tag-ne-TAG_CLASS : goal.returns-then-bad_tag-ne-TAG_CLASS
returns-then-bad_tag-ne-TAG_CLASS c = let a = c.args in meets_end a.ws.now a.s _ _ _ _ c.loop-s.invariant.0 c.bad_tag.ensures c.if-bad_tag-ne-TAG_CLASS.true

pub next_item-next-requires : goal.next_item-next-requires
next_item-next-requires c = record {
  whole = c.requires.summed.whole;
  r_le_badrows = let h = bad_inside _ _ _ _ c.bad_tag.ensures (omega (arith, c.if-bad_tag-ne-TAG_CLASS.false)) in search rules;
}

pub item_count-requires : goal.item_count-requires
item_count-requires c = record { summed = c.requires.summed; r_lt_badrows = bad_inside _ _ _ _ c.bad_tag.ensures (omega (arith, c.if-bad_tag-ne-TAG_CLASS.false)) }

pub returns-then-item_count-least : goal.returns-then-item_count-least
returns-then-item_count-least c = let a = c.args in meets_not a.ws.now a.s _ _ _ _ c.loop-s.invariant.0 c.bad_tag.ensures c.if-bad_tag-ne-TAG_CLASS.false _ _ _ c.next_item-next.ensures.value c.bad_number-least.ensures.0 c.item_count.ensures (search rules)

pub loop-s-smaller : goal.loop-s-smaller
loop-s-smaller c = let h = bad_inside _ _ _ _ c.bad_tag.ensures (omega (arith, c.if-bad_tag-ne-TAG_CLASS.false)) in search rules

pub loop-s-preserved : goal.loop-s-preserved
loop-s-preserved c = let a = c.args in (meets_next a.ws.now a.s _ _ _ _ c.loop-s.invariant.0 c.bad_tag.ensures c.if-bad_tag-ne-TAG_CLASS.false _ _ _ c.next_item-next.ensures.value c.bad_number-least.ensures.0 c.item_count.ensures (search rules), search rules)
