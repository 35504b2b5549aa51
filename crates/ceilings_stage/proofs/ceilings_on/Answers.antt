use native.Mathlib.Omega.{arith}
use mathlib.Core.Path.{◌≡◌, refl, sym, ap, ◌∙◌}
use Rattle.std.proofs.Common.{Err}
use Rattle.model.specs.Verify.{outcome}
use Rattle.system_totals.proofs.Walk.{room_kept}
use Rattle.stages.specs.Order.{below_ceilings}
use Rattle.stages.proofs.Answering.{goes_past, ends_at}
use Rattle.rule_tables.proofs.Joining.{long, lent_letters}
use Rattle.stages.proofs.Laying.{ceilings_of_ready}
use borrow.Author.Rules.{rules}
use Rattle.ceilings_stage.proofs.ceilings_on.Goals as goal

pub fill_limits-requires : goal.fill_limits-requires
fill_limits-requires c = record { whole = (ceilings_of_ready _ _ c.requires.joined_tables.ready, c.requires.numbered.in_form); bounds_room = c.requires.bounds_room.0 }

pub start_verdict-requires : goal.start_verdict-requires
start_verdict-requires c =
    let t = c.requires.joined_tables in
    record {
      startable = record { ready = t.ready; ends = t.ends; closed = t.closed; counted = record { counters = c.requires.numbered.counted; few = omega (arith, c.requires.numbered.counted, t.few) } };
      limits_table = c.fill_limits.ensures.limits_table;
    }

pub returns-in_err-start_verdict : goal.returns-in_err-start_verdict
unfolding below_ceilings
returns-in_err-start_verdict c =
    let v = c.in_err-start_verdict.field-0.0 in
    let b : c.from_residual.result ≡ Err v = search rules in
    let z = ends_at _ _ _ _ _ v _ _ _ refl c.start_verdict.ensures c.in_err-start_verdict.was b in record { value = z.0; lent_after = z.1 }

pub slice_bounds-met_verdict-start : goal.slice_bounds-met_verdict-start
slice_bounds-met_verdict-start c = let l = long _ _ _ _ _ _ c.requires.joined_tables in search rules

pub slice_bounds-met_verdict-count : goal.slice_bounds-met_verdict-count
slice_bounds-met_verdict-count c = omega (arith, long _ _ _ _ _ _ c.requires.joined_tables)

pub met_verdict-requires : goal.met_verdict-requires
met_verdict-requires c =
    let t = c.requires.joined_tables in
    record {
      letters_filled = (record { ready = t.ready; class_letters = lent_letters _ _ _ _ _ _ t; letter_sets_of = t.letter_sets_of }, c.requires.numbered.bads);
      counted = (record { counters = c.requires.numbered.counted; few = omega (arith, c.requires.numbered.counted, t.few) }, c.fill_limits.ensures.limits_table);
      n_in_bounds = c.requires.bounds_room.1;
    }

pub returns-in_err-met_verdict : goal.returns-in_err-met_verdict
unfolding below_ceilings
returns-in_err-met_verdict c =
    let v = c.in_err-met_verdict.field-0.0 in
    let b : c.from_residual-in_err-met_verdict.result ≡ Err v = search rules in
    let z = ends_at _ _ _ _ _ v _ _ _ (goes_past _ _ _ _ refl c.start_verdict.ensures c.in_ok-start_verdict.was) c.met_verdict.ensures c.in_err-met_verdict.was b in record { value = z.0; lent_after = z.1 }

pub leaks_on-leaks-requires : goal.leaks_on-leaks-requires
leaks_on-leaks-requires c =
    let n = c.requires.numbered in
    record {
      joined_tables = c.requires.joined_tables;
      limited = record { counted = n.counted; in_form = n.in_form; limits_table = c.fill_limits.ensures.limits_table; starts_table = c.fill_limits.ensures.starts_table };
      mask_room = c.requires.mask_room;
      rule_room = c.requires.rule_room;
    }

pub returns-in_err-leaks : goal.returns-in_err-leaks
unfolding below_ceilings
returns-in_err-leaks c =
    let v = c.in_err-leaks.field-0.0 in
    let b : c.from_residual-in_err-leaks.result ≡ Err v = search rules in
    let z = ends_at _ _ _ _ _ v _ _ _ (goes_past _ _ _ _ (goes_past _ _ _ _ refl c.start_verdict.ensures c.in_ok-start_verdict.was) c.met_verdict.ensures c.in_ok-met_verdict.was) c.leaks_on-leaks.ensures.value c.in_err-leaks.was b in record { value = z.0; lent_after = z.1 }

pub space_verdict-requires : goal.space_verdict-requires
space_verdict-requires c =
    record {
      joined_tables = c.requires.joined_tables;
      rule_room = room_kept _ _ _ _ _ _ c.requires.rule_room.0 c.leaks_on-leaks.auto.tos c.leaks_on-leaks.auto.others;
      totalled = c.leaks_on-leaks.ensures.totalled;
    }

pub returns : goal.returns
unfolding below_ceilings
returns c =
    record {
      value = c.space_verdict.ensures.value ∙ sym (ap outcome (goes_past _ _ _ _ (goes_past _ _ _ _ (goes_past _ _ _ _ refl c.start_verdict.ensures c.in_ok-start_verdict.was) c.met_verdict.ensures c.in_ok-met_verdict.was) c.leaks_on-leaks.ensures.value c.in_ok-leaks.was));
      lent_after = c.space_verdict.ensures.lent_after;
    }
