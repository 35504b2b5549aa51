use native.Mathlib.Omega.{arith}
use Rattle.stages.proofs.Laying.{ceilings_of_ready}
use Rattle.stages.proofs.met_verdict.Goals as goal

pub fill_items-requires : goal.fill_items-requires
fill_items-requires c =
    let rows = c.requires.letters_filled.0.ready.limits.badrows.1 in
    record {
      letters_filled = c.requires.letters_filled.0;
      items_room = record { few = omega (arith, c.requires.counted.0.counters, c.requires.counted.0.few); from_room = omega (arith, rows, c.words16-froms.ensures.room); to_room = omega (arith, rows, c.words16-tos.ensures.room) };
    }

pub met_check-requires : goal.met_check-requires
met_check-requires c = record {
  ready = record {
    whole = ceilings_of_ready _ _ c.requires.letters_filled.0.ready;
    counters = c.requires.counted.0.counters;
    counters_low = c.requires.counted.0.few;
    limits_table = c.requires.counted.1;
    items_table = c.fill_items.ensures;
  };
  bads_in_form = c.requires.letters_filled.1;
  n_in_bounds = c.requires.n_in_bounds;
}
