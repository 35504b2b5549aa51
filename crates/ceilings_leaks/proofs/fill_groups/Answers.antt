use borrow.Author.Rules.{rules}
use Prim.Native.Nat.{◌-◌, ◌≤◌}
use native.Mathlib.Omega.{arith}
use mathlib.Core.Path.{refl, ◌∙◌, ap}
use lib.ListN.{length}
use Rattle.model.specs.Words.{columns}
use Rattle.model.specs.Tables.{tables, entries}
use Rattle.steps.specs.Steps.{effect_kind_of}
use Rattle.system_totals.proofs.Lined.{summed_none, summed_more, summed_all}
use Rattle.system_totals.proofs.Walk.{walk_begin, walk_next}
use Rattle.kept_rules.proofs.Keeping.{lent_rules, few_rules, spare_low, room_later, starts_low, kept_start, kept_next, kept_all}
use Rattle.ceilings_leaks.proofs.Leaking.{groups_start, groups_next, groups_all}
use Rattle.ceilings_leaks.proofs.fill_groups.Goals as goal

pub is_boundless-boundless-requires : goal.is_boundless-boundless-requires
is_boundless-boundless-requires c = c.requires.ceilings_ready.held_by.room

pub loop-i-init : goal.loop-i-init
loop-i-init c = (groups_start _ _ _ _ _, summed_none _ _, walk_begin _ _ _, omega arith, refl, kept_start _ _ _ _ _ _ _ c.none_kept-kept.ensures.used_value c.none_kept-kept.ensures.states_in_bounds, omega (arith, c.none_kept-kept.ensures.used_value), (λ h. (c.none_kept-kept.ensures.states_in_bounds h).0), refl)

pub guess_class-requires : goal.guess_class-requires
guess_class-requires c = c.requires.joined_tables.ready

pub rules_from-m-requires : goal.rules_from-m-requires
rules_from-m-requires c =
    let h = c.loop-i.invariant in
    let room = c.requires.room_from in
    record {
      joined_tables = c.requires.joined_tables;
      i_lt_states = (c.loop-i-test.true, omega (arith, h.6, spare_low _ _ _ _ _ room.0 room.1));
      room_from = room_later _ _ _ _ _ room.0 _ _ _ h.6 h.2.tos_long h.2.others_long;
    }

pub state_head-head-requires : goal.state_head-head-requires
state_head-head-requires c = c.requires.joined_tables.ready

pub overflow_add-rules : goal.overflow_add-rules
overflow_add-rules c =
    let few-here : c.rules_from-m.result ≤ 65536 = few_rules _ _ _ _ _ _ _ c.rules_from-m.ensures.rules_from (omega (arith, c.rules_from-m.auto.tos, c.loop-i.invariant.2.tos_long, c.requires.room_from.1)) in record { fits = omega (arith, few-here, c.loop-i.invariant.1.rules_low, c.loop-i-test.true, c.requires.joined_tables.ready.limits.states) }

pub row_total-rows-requires : goal.row_total-rows-requires
row_total-rows-requires c =
    let few-here : c.rules_from-m.result ≤ 65536 = few_rules _ _ _ _ _ _ _ c.rules_from-m.ensures.rules_from (omega (arith, c.rules_from-m.auto.tos, c.loop-i.invariant.2.tos_long, c.requires.room_from.1)) in few-here

pub overflow_add-rows : goal.overflow_add-rows
overflow_add-rows c =
    let few-here : c.rules_from-m.result ≤ 65536 = few_rules _ _ _ _ _ _ _ c.rules_from-m.ensures.rules_from (omega (arith, c.rules_from-m.auto.tos, c.loop-i.invariant.2.tos_long, c.requires.room_from.1)) in record { fits = omega (arith, few-here, c.row_total-rows.ensures.1, c.loop-i.invariant.1.rows_low, c.loop-i-test.true, c.requires.joined_tables.ready.limits.states) }

pub offset_bounds-tos-used : goal.offset_bounds-tos-used
offset_bounds-tos-used c =
    let begins-here : (c.loop-i.kept.used ≤ length c.loop-i.tos) × (c.loop-i.kept.used ≤ length c.loop-i.others) = let h = c.loop-i.invariant in
    starts_low _ _ _ c.loop-i.tos c.loop-i.others (room_later _ _ _ _ _ c.requires.room_from.0 _ _ _ h.6 h.2.tos_long h.2.others_long) in record { fits = omega (arith, begins-here.0, c.loop-i.invariant.2.tos_long, c.requires.room_from.1) }

pub slice_bounds-put_group-count : goal.slice_bounds-put_group-count
slice_bounds-put_group-count c =
    let begins-here : (c.loop-i.kept.used ≤ length c.loop-i.tos) × (c.loop-i.kept.used ≤ length c.loop-i.others) = let h = c.loop-i.invariant in
    starts_low _ _ _ c.loop-i.tos c.loop-i.others (room_later _ _ _ _ _ c.requires.room_from.0 _ _ _ h.6 h.2.tos_long h.2.others_long) in omega (arith, begins-here.0, c.rules_from-m.auto.tos)

pub offset_bounds-others-used : goal.offset_bounds-others-used
offset_bounds-others-used c =
    let begins-here : (c.loop-i.kept.used ≤ length c.loop-i.tos) × (c.loop-i.kept.used ≤ length c.loop-i.others) = let h = c.loop-i.invariant in
    starts_low _ _ _ c.loop-i.tos c.loop-i.others (room_later _ _ _ _ _ c.requires.room_from.0 _ _ _ h.6 h.2.tos_long h.2.others_long) in record { fits = omega (arith, begins-here.0, c.loop-i.invariant.2.tos_long, c.requires.room_from.1) }

pub slice_bounds-put_group-count-in-loop-i : goal.slice_bounds-put_group-count-in-loop-i
slice_bounds-put_group-count-in-loop-i c =
    let begins-here : (c.loop-i.kept.used ≤ length c.loop-i.tos) × (c.loop-i.kept.used ≤ length c.loop-i.others) = let h = c.loop-i.invariant in
    starts_low _ _ _ c.loop-i.tos c.loop-i.others (room_later _ _ _ _ _ c.requires.room_from.0 _ _ _ h.6 h.2.tos_long h.2.others_long) in omega (arith, begins-here.1, c.rules_from-m.auto.others)

pub put_group-requires : goal.put_group-requires
put_group-requires c =
    let r = lent_rules _ _ _ _ _ _ _ c.rules_from-m.ensures.rules_from in
    record {
      holders = c.requires.ceilings_ready.held_by;
      m_in_bounds = (r.tos_room, r.others_room);
      i_in_bounds = omega (arith, c.loop-i-test.true, c.loop-i.invariant.4, c.requires.states_in_bounds);
    }

pub keep-kept-requires : goal.keep-kept-requires
keep-kept-requires c =
    let few-here : c.rules_from-m.result ≤ 65536 = few_rules _ _ _ _ _ _ _ c.rules_from-m.ensures.rules_from (omega (arith, c.rules_from-m.auto.tos, c.loop-i.invariant.2.tos_long, c.requires.room_from.1)) in
    let h = c.loop-i.invariant in
    let room = c.requires.room_from in
    record {
      used_le_spare = (h.6, spare_low _ _ _ _ _ room.0 room.1);
      i_in_bounds = (λ all. omega (arith, h.7 all, c.loop-i-test.true));
      i_bound = (omega (arith, c.loop-i-test.true, c.requires.joined_tables.ready.limits.states), few-here);
    }

pub overflow_step-i : goal.overflow_step-i
overflow_step-i c = record { fits = omega (arith, c.loop-i-test.true, c.requires.joined_tables.ready.limits.states) }

pub loop-i-smaller : goal.loop-i-smaller
loop-i-smaller c = omega (arith, c.loop-i-test.true)

pub loop-i-preserved : goal.loop-i-preserved
loop-i-preserved c =
    let begins-here : (c.loop-i.kept.used ≤ length c.loop-i.tos) × (c.loop-i.kept.used ≤ length c.loop-i.others) = let h = c.loop-i.invariant in
    starts_low _ _ _ c.loop-i.tos c.loop-i.others (room_later _ _ _ _ _ c.requires.room_from.0 _ _ _ h.6 h.2.tos_long h.2.others_long) in
    let few-here : c.rules_from-m.result ≤ 65536 = few_rules _ _ _ _ _ _ _ c.rules_from-m.ensures.rules_from (omega (arith, c.rules_from-m.auto.tos, c.loop-i.invariant.2.tos_long, c.requires.room_from.1)) in
    let h = c.loop-i.invariant in
    let low = begins-here in
    let rules = c.rules_from-m.ensures.rules_from in (
      groups_next _ _ _ _ _ _ _ _ _ (lent_rules _ _ _ _ _ _ _ rules) (c.effect_kind.ensures.value ∙ ap effect_kind_of c.state_head-head.ensures) c.effect_kind.ensures.upper_bound _ _ c.put_group.ensures h.0,
      summed_more _ _ c.loop-i.i c.loop-i.rules c.loop-i.rows _ _ _ _ _ h.1 rules.rules few-here c.state_head-head.ensures c.row_total-rows.ensures.0 c.row_total-rows.ensures.1,
      walk_next _ _ _ _ _ _ h.2 _ _ _ c.guess_class.auto.at c.rules_from-m.auto.tos c.rules_from-m.auto.others,
      omega (arith, c.loop-i-test.true),
      c.put_group.ensures.long ∙ h.4,
      kept_next _ _ _ _ _ _ _ _ _ _ _ _ h.5 (λ all. omega (arith, h.7 all, c.loop-i-test.true)) c.keep-kept.ensures.all_value rules low.0 low.1 c.rules_from-m.ensures.same_below.0 c.rules_from-m.ensures.same_below.1 c.rules_from-m.auto.tos c.rules_from-m.auto.others,
      c.keep-kept.ensures.used_le_spare_2,
      (λ all. omega (arith, h.7 (c.keep-kept.ensures.all_value all).0, c.keep-kept.auto.first_at)),
      c.keep-kept.auto.first_at ∙ h.8,
    )

pub shape_of-at : goal.shape_of-at
shape_of-at c = c.loop-i.invariant.2.at_long

pub shape_of-tos : goal.shape_of-tos
shape_of-tos c = c.loop-i.invariant.2.tos_long

pub shape_of-others : goal.shape_of-others
shape_of-others c = c.loop-i.invariant.2.others_long

pub shape_of-first_at : goal.shape_of-first_at
shape_of-first_at c = c.loop-i.invariant.8 ∙ c.none_kept-kept.auto.first_at

pub shape_of-group : goal.shape_of-group
shape_of-group c = c.loop-i.invariant.4

pub returns : goal.returns
unfolding tables entries columns
returns c =
    let h = c.loop-i.invariant in
    record {
      groups_upto = groups_all _ _ _ _ _ _ c.loop-i-test.false h.0;
      totalled = summed_all _ _ c.loop-i.i c.loop-i.rules c.loop-i.rows h.1 (omega (arith, h.3, c.loop-i-test.false)) (omega (arith, h.3, c.requires.joined_tables.ready.limits.states));
      kept_rules = kept_all _ _ _ _ _ _ _ _ (omega (arith, h.3, c.loop-i-test.false)) h.5;
    }
