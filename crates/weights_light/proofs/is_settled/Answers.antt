use mathlib.Core.Path.{refl, sym, ◌∙◌}
use mathlib.Core.Bool.{true, false}
use Rattle.model.proofs.Index.{any_end}
use Rattle.ceilings.proofs.Cells.{row_in}
use Rattle.weights_light.proofs.Settled.{settled_without, settled_by, weighable, weights_room, above_hit, above_miss}
use borrow.Author.Rules.{rules}
use Rattle.weights_light.proofs.is_settled.Goals as goal

pub lacks_counter-requires : goal.lacks_counter-requires
lacks_counter-requires c = record { whole = c.requires.weighing.whole; items_counted = c.requires.weighing.items_table; r_le_badrows = c.requires.r_le_badrows.0 }

pub returns-then-lacks_counter : goal.returns-then-lacks_counter
returns-then-lacks_counter c = let a = c.args in let p = c.requires.weighing in settled_without a.ws.now a.s a.n a.r _ c.lacks_counter.ensures c.if-lacks_counter.true

pub loop-k-init : goal.loop-k-init
loop-k-init c = (refl, search rules, refl)

pub start_weight-start-requires : goal.start_weight-start-requires
start_weight-start-requires c =
    let a = c.args in let p = c.requires.weighing in
    record {
      k_lt_lines = search rules;
      row = row_in _ a.n _ _ p.start_low (weights_room a.ws.now a.s a.n _ _ _ _ p);
    }

pub least_weight-requires : goal.least_weight-requires
least_weight-requires c =
    let a = c.args in let p = c.requires.weighing in
    record {
      weighable = weighable a.ws.now a.s a.n _ _ _ _ p;
      n_value = p.counters;
      k_lt_lines = (search rules, c.requires.r_le_badrows.0, search rules);
      all_counted = sym c.lacks_counter.ensures ∙ c.if-lacks_counter.false;
    }

pub returns-then-start-least_weight : goal.returns-then-start-least_weight
returns-then-start-least_weight c = let a = c.args in let p = c.requires.weighing in settled_by a.ws.now a.s a.n a.r _ true c.lacks_counter.ensures c.if-lacks_counter.false (c.loop-k.invariant.0 ∙ above_hit a.ws.now a.s a.n _ _ _ _ p a.r c.loop-k.k _ _ (search rules) c.start_weight-start.ensures c.least_weight.ensures c.if-start-least_weight.true)

pub loop-k-preserved : goal.loop-k-preserved
loop-k-preserved c = let a = c.args in let p = c.requires.weighing in (c.loop-k.invariant.0 ∙ above_miss a.ws.now a.s a.n _ _ _ _ p a.r c.loop-k.k _ _ (search rules) c.start_weight-start.ensures c.least_weight.ensures c.if-start-least_weight.false, search rules, search rules)

pub returns : goal.returns
returns c = let a = c.args in let p = c.requires.weighing in settled_by a.ws.now a.s a.n a.r _ false c.lacks_counter.ensures c.if-lacks_counter.false (c.loop-k.invariant.0 ∙ any_end _ _ _ (search rules))
