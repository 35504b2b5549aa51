use native.Mathlib.Omega.{arith}
use mathlib.Core.Path.{refl, sym, ◌∙◌, ap}
use Rattle.model.specs.Rows.{program}
use Rattle.model.specs.Tables.{tables}
use Rattle.model.specs.Bads.{bad_rows}
use Rattle.model.specs.Weights.{fill_those}
use Rattle.bads_rows.specs.Items.{items_at}
use Rattle.bads_rows.proofs.BadRows.{bad_inside}
use Rattle.weights_least.specs.Least.{counters_of, line_of, counts_in, in_pass}
use Rattle.weights_least.proofs.Items.{those_over, those_in, those_out, item_counted, rest_counted}
use borrow.Author.Rules.{rules}
use Rattle.weights_least.proofs.put_items.Goals as goal

pub loop-s-init : goal.loop-s-init
loop-s-init c = (refl, search rules, c.requires.all_counted, search rules, search rules, refl)

pub returns-then-bad_tag-ne-TAG_CLASS : goal.returns-then-bad_tag-ne-TAG_CLASS
returns-then-bad_tag-ne-TAG_CLASS c =
    let a = c.args in let v = c.loop-s.invariant in
    record {
      counts_after = sym (v.0 ∙ those_over a.ws.now a.s c.loop-s.i _ c.bad_tag.ensures (line_of a.ws.now a.s a.k) (in_pass a.single) (counts_in (counters_of a.ws.now a.s) c.loop-s.counts) c.if-bad_tag-ne-TAG_CLASS.true);
      grown = v.1;
      upper_bound = omega (arith, v.3, v.4, c.requires.weighable.whole.limits);
    }

pub next_item-next-requires : goal.next_item-next-requires
next_item-next-requires c = let h = bad_inside _ _ _ _ c.bad_tag.ensures (omega (arith, c.if-bad_tag-ne-TAG_CLASS.false)) in search rules

pub is_in_pass-requires : goal.is_in_pass-requires
is_in_pass-requires c = let h = bad_inside _ _ _ _ c.bad_tag.ensures (omega (arith, c.if-bad_tag-ne-TAG_CLASS.false)) in search rules

pub put_item-more-requires : goal.put_item-more-requires
put_item-more-requires c =
    let a = c.args in let h = bad_inside _ _ _ _ c.bad_tag.ensures (omega (arith, c.if-bad_tag-ne-TAG_CLASS.false)) in
    record {
      weighable = c.requires.weighable;
      k_lt_lines = (c.requires.k_lt_lines.0, h, search rules);
      next_value = c.next_item-next.ensures.value;
      has_counter = item_counted a.ws.now a.s c.loop-s.i _ c.bad_tag.ensures c.if-bad_tag-ne-TAG_CLASS.false _ c.next_item-next.ensures.value c.loop-s.invariant.2;
    }

pub weight_with-total-requires : goal.weight_with-total-requires
weight_with-total-requires c = let v = c.loop-s.invariant in (omega (arith, v.3, v.4, c.requires.weighable.whole.limits), c.put_item-more.ensures.upper_bound)

pub loop-s-smaller-then-is_in_pass : goal.loop-s-smaller-then-is_in_pass
loop-s-smaller-then-is_in_pass c = let h = bad_inside _ _ _ _ c.bad_tag.ensures (omega (arith, c.if-bad_tag-ne-TAG_CLASS.false)) in search rules

pub loop-s-preserved-then-is_in_pass : goal.loop-s-preserved-then-is_in_pass
loop-s-preserved-then-is_in_pass c = let a = c.args in let v = c.loop-s.invariant in (v.0 ∙ (those_in a.ws.now a.s c.loop-s.i _ c.bad_tag.ensures (line_of a.ws.now a.s a.k) (in_pass a.single) (counts_in (counters_of a.ws.now a.s) c.loop-s.counts) c.if-bad_tag-ne-TAG_CLASS.false _ c.next_item-next.ensures.value (sym c.is_in_pass.ensures ∙ c.if-is_in_pass.true) ∙ ap (fill_those (program a.ws.now a.s) (tables a.ws.now a.s) (line_of a.ws.now a.s a.k) (in_pass a.single) (items_at (bad_rows a.ws.now a.s) c.next_item-next.result)) (sym c.put_item-more.ensures.counts_after)), omega (arith, v.1, c.put_item-more.ensures.grown, c.weight_with-total.ensures), rest_counted a.ws.now a.s c.loop-s.i _ c.bad_tag.ensures c.if-bad_tag-ne-TAG_CLASS.false _ c.next_item-next.ensures.value v.2, omega (arith, v.3, c.put_item-more.ensures.upper_bound, c.weight_with-total.ensures, c.next_item-next.ensures.lower_bound), search rules, search rules)

pub loop-s-smaller : goal.loop-s-smaller
loop-s-smaller c = let h = bad_inside _ _ _ _ c.bad_tag.ensures (omega (arith, c.if-bad_tag-ne-TAG_CLASS.false)) in search rules

pub loop-s-preserved : goal.loop-s-preserved
loop-s-preserved c = let a = c.args in let v = c.loop-s.invariant in (v.0 ∙ those_out a.ws.now a.s c.loop-s.i _ c.bad_tag.ensures (line_of a.ws.now a.s a.k) (in_pass a.single) (counts_in (counters_of a.ws.now a.s) c.loop-s.counts) c.if-bad_tag-ne-TAG_CLASS.false _ c.next_item-next.ensures.value (sym c.is_in_pass.ensures ∙ c.if-is_in_pass.false), v.1, rest_counted a.ws.now a.s c.loop-s.i _ c.bad_tag.ensures c.if-bad_tag-ne-TAG_CLASS.false _ c.next_item-next.ensures.value v.2, omega (arith, v.3, c.next_item-next.ensures.lower_bound), search rules, v.5)
