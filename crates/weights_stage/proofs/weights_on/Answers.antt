use native.Mathlib.Omega.{arith}
use mathlib.Core.Path.{◌≡◌, refl, sym, ap, ◌∙◌}
use Rattle.std.proofs.Common.{Err}
use borrow.Author.Rules.{rules}
use Rattle.model.specs.Verify.{outcome}
use Rattle.system_totals.proofs.Walk.{room_kept}
use Rattle.stages.specs.Order.{below_weights}
use Rattle.stages.proofs.Answering.{goes_past, ends_at}
use Rattle.rule_tables.proofs.Joining.{long, lent_letters}
use Rattle.stages.proofs.Laying.{ceilings_of_ready}
use Rattle.weights_stage.proofs.weights_on.Goals as goal

pub fill_weights-requires : goal.fill_weights-requires
fill_weights-requires c =
    let l = c.requires.lined in
    let r = c.requires.bounds_room.0 in record { whole = (ceilings_of_ready _ _ c.requires.joined_tables.ready, l.some, l.in_form); bounds_room = r }

pub rise_check-raised-requires : goal.rise_check-raised-requires
rise_check-raised-requires c = record { joined_tables = c.requires.joined_tables; weights_ready = record { counted = c.requires.lined.counted; table = c.fill_weights.ensures.weights_table; begins = c.fill_weights.ensures.begins_table }; rule_room = c.requires.rule_room }

pub returns-in_err-raised : goal.returns-in_err-raised
unfolding below_weights
returns-in_err-raised c =
    let v = c.in_err-raised.field-0.0 in
    let b : c.from_residual.result ≡ Err v = search rules in
    let z = ends_at _ _ _ _ _ v _ _ _ refl c.rise_check-raised.ensures.value c.in_err-raised.was b in record { value = z.0; lent_after = z.1 }

pub slice_bounds-light_verdict-start : goal.slice_bounds-light_verdict-start
slice_bounds-light_verdict-start c = let l = long _ _ _ _ _ _ c.requires.joined_tables in search rules

pub slice_bounds-light_verdict-count : goal.slice_bounds-light_verdict-count
slice_bounds-light_verdict-count c = omega (arith, long _ _ _ _ _ _ c.requires.joined_tables)

pub light_verdict-requires : goal.light_verdict-requires
light_verdict-requires c =
    let t = c.requires.joined_tables in
    let l = c.requires.lined in
    record {
      startable = record { ready = t.ready; ends = t.ends; closed = t.closed; counted = record { counters = l.counted; few = omega (arith, l.counted, t.few) } };
      letters_filled = (record { ready = t.ready; class_letters = lent_letters _ _ _ _ _ _ t; letter_sets_of = t.letter_sets_of }, l.bads);
      weights_table = (c.fill_weights.ensures.weights_table, c.requires.bounds_room.1);
    }

pub returns-in_err-light_verdict : goal.returns-in_err-light_verdict
unfolding below_weights
returns-in_err-light_verdict c =
    let v = c.in_err-light_verdict.field-0.0 in
    let b : c.from_residual-in_err-light_verdict.result ≡ Err v = search rules in
    let z = ends_at _ _ _ _ _ v _ _ _ (goes_past _ _ _ _ refl c.rise_check-raised.ensures.value c.in_ok-raised.was) c.light_verdict.ensures c.in_err-light_verdict.was b in record { value = z.0; lent_after = z.1 }

pub space_verdict-requires : goal.space_verdict-requires
space_verdict-requires c =
    record {
      joined_tables = c.requires.joined_tables;
      rule_room = room_kept _ _ _ _ _ _ c.requires.rule_room.0 c.rise_check-raised.auto.tos c.rise_check-raised.auto.others;
      totalled = c.rise_check-raised.ensures.totalled;
    }

pub returns : goal.returns
unfolding below_weights
returns c =
    record {
      value = c.space_verdict.ensures.value ∙ sym (ap outcome (goes_past _ _ _ _ (goes_past _ _ _ _ refl c.rise_check-raised.ensures.value c.in_ok-raised.was) c.light_verdict.ensures c.in_ok-light_verdict.was));
      lent_after = c.space_verdict.ensures.lent_after;
    }
