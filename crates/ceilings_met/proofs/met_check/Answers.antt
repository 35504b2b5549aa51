use mathlib.Core.Path.{◌≡◌, refl}
use Rattle.model.specs.Message.{bads_offset}
use Rattle.ceilings_met.proofs.Meeting.{allows, first_none, first_upto, limits_room, summed, allowed_next, met_safe, met_refused}
use borrow.Author.Rules.{rules}
use Rattle.ceilings_met.proofs.met_check.Goals as goal

pub loop-k-init : goal.loop-k-init
loop-k-init c = (first_none c.args.s.bads (allows c.args.ws.now c.args.s c.args.n), search rules, search rules, refl)

pub fill_sums-requires : goal.fill_sums-requires
fill_sums-requires c = record {
  k_lt_ceilings = (search rules, c.requires.ready.counters_low);
  ceilings_in_bounds = limits_room c.args.ws.now c.args.s _ _ c.requires.ready.limits_table;
  n_in_bounds = search rules;
}

pub first_met-least-requires : goal.first_met-least-requires
first_met-least-requires c = record {
  summed = summed c.args.ws.now c.args.s _ _ _ _ c.requires.ready _ (search rules) _ c.fill_sums.ensures (search rules);
  bads_in_form = c.requires.bads_in_form;
  upto_le_bads = search rules;
}

pub loop-k-preserved : goal.loop-k-preserved
loop-k-preserved c = (allowed_next c.args.ws.now c.args.s _ _ _ _ c.requires.ready _ (search rules) _ c.fill_sums.ensures _ _ c.loop-k.invariant.0 c.first_met-least.ensures, first_upto _ _ _ _ c.first_met-least.ensures (search rules), search rules, search rules)

pub returns-then-least-s : goal.returns-then-least-s
returns-then-least-s c = let e : c.loop-k.k ≡ c.args.s.ceilings = search rules in met_safe c.args.ws.now c.args.s c.args.n _ (rw e at c.loop-k.invariant.0) c.if-least-s.true

pub bad_row-requires : goal.bad_row-requires
bad_row-requires c = record { whole = c.requires.ready.whole; bads_upto = record { in_form = c.requires.bads_in_form; upto = c.loop-k.invariant.1 } }

pub returns : goal.returns
unfolding bads_offset
returns c = let e : c.loop-k.k ≡ c.args.s.ceilings = search rules in met_refused c.args.ws.now c.args.s c.args.n _ _ _ (rw e at c.loop-k.invariant.0) c.if-least-s.false c.bad_row.ensures.0 refl
