use native.Mathlib.Omega.{arith}
use Rattle.model.specs.Ceilings.{ceilings_of}
use Rattle.system_totals.proofs.Walk.{room_kept}
use Rattle.rule_tables.proofs.Joining.{long, lent_letters}
use Rattle.leaks_stage.proofs.Laying.{rules_fit, spare_room, states_few, with_holders}
use borrow.Author.Rules.{rules}
use Rattle.leaks_stage.proofs.leaks_on.Goals as goal

pub fill_holders-requires : goal.fill_holders-requires
unfolding ceilings_of
fill_holders-requires c =
    let l = c.requires.limited in
    let m = c.requires.mask_room in
    record {
      ceilings_le_max_ceilings = (c.requires.joined_tables.ready.limits.ceilings, omega (arith, l.counted, c.requires.joined_tables.few));
      ceilings_in_bounds = l.limits_table.room;
      n_in_bounds = m.held;
    }

pub slice_bounds-letter_at-start : goal.slice_bounds-letter_at-start
slice_bounds-letter_at-start c = let l = long _ _ _ _ _ _ c.requires.joined_tables in search rules

pub slice_bounds-letter_at-count : goal.slice_bounds-letter_at-count
slice_bounds-letter_at-count c = omega (arith, long _ _ _ _ _ _ c.requires.joined_tables)

pub spare_words-spare-requires : goal.spare_words-spare-requires
spare_words-spare-requires c = record {
  ready = c.requires.joined_tables.ready;
  class_letters = lent_letters _ _ _ _ _ _ c.requires.joined_tables;
  rules_fit = rules_fit _ _ _ _ _ (search rules) c.requires.rule_room.0;
}

pub fill_groups-gathered-requires : goal.fill_groups-gathered-requires
fill_groups-gathered-requires c =
    let l = c.requires.limited in
    record {
      joined_tables = c.requires.joined_tables;
      ceilings_ready = with_holders _ _ _ _ _ _ l c.fill_holders.ensures;
      room_from = (spare_room _ _ _ _ _ _ (search rules) c.requires.rule_room.0 c.spare_words-spare.ensures, c.requires.rule_room.1);
      states_in_bounds = omega (arith, c.requires.mask_room.states, states_few _ _ _ l.counted);
    }

pub leak_check-leaks-requires : goal.leak_check-leaks-requires
leak_check-leaks-requires c =
    let l = c.requires.limited in
    let m = c.requires.mask_room in
    record {
      joined_tables = c.requires.joined_tables;
      ceilings_ready = with_holders _ _ _ _ _ _ l c.fill_holders.ensures;
      groups_upto = c.fill_groups-gathered.ensures.groups_upto;
      kept_rules = c.fill_groups-gathered.ensures.kept_rules;
      states_in_bounds = omega (arith, m.states, states_few _ _ _ l.counted);
      rooms = record { rules = room_kept _ _ _ _ _ _ c.requires.rule_room.0 c.fill_groups-gathered.auto.tos c.fill_groups-gathered.auto.others; near_room = m.beside };
    }

pub returns : goal.returns
returns c = record { value = c.leak_check-leaks.ensures; totalled = c.fill_groups-gathered.ensures.totalled }
