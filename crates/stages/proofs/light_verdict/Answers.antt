use native.Mathlib.Omega.{arith}
use Rattle.stages.proofs.Laying.{ceilings_of_ready, start_counted}
use Rattle.stages.proofs.light_verdict.Goals as goal

pub start_counter-counter-requires : goal.start_counter-counter-requires
start_counter-counter-requires c =
    let p = c.requires.startable in record { ready = p.ready; ends = p.ends }

pub fill_items-requires : goal.fill_items-requires
fill_items-requires c =
    let rows = c.requires.startable.ready.limits.badrows.1 in
    let n = c.requires.startable.counted in
    record {
      letters_filled = c.requires.letters_filled.0;
      items_room = record { few = omega (arith, n.counters, n.few); from_room = omega (arith, rows, c.words16-froms.ensures.room); to_room = omega (arith, rows, c.words16-tos.ensures.room) };
    }

pub light_check-requires : goal.light_check-requires
light_check-requires c =
    let x = c.start_counter-counter.ensures in
    let low = start_counted _ _ _ c.requires.startable.closed in
    record {
      weighing = record {
        whole = ceilings_of_ready _ _ c.requires.startable.ready;
        counters = c.requires.startable.counted.counters;
        counters_low = c.requires.startable.counted.few;
        weights_table = c.requires.weights_table.0;
        items_table = c.fill_items.ensures;
        start = x;
        start_low = omega (arith, x, low, c.requires.startable.counted.counters);
      };
      bads_in_form = c.requires.letters_filled.1;
      n_in_bounds = c.requires.weights_table.1;
    }
