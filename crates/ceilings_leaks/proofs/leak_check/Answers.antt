use Rattle.ceilings_form.proofs.Reading.{begins_low}
use Prim.Native.Nat.{◌+◌, ◌-◌}
use native.Mathlib.Omega.{arith}
use mathlib.Core.Path.{refl, sym, ◌∙◌}
use borrow.Author.Rules.{rules}
use Rattle.state_rules.proofs.Letters.{set_room}
use Rattle.ceilings_letters.proofs.Holding.{letters_ready}
use Rattle.ceilings_form.proofs.Ceilings.{entries_size}
use Rattle.ceilings.proofs.Ahead.{ahead_inside}
use Rattle.ceilings.proofs.Begun.{begun, room_all, row_at}
use Rattle.ceilings_covers.proofs.Covering.{candidate_covers, covers_not}
use Rattle.ceilings_groups.proofs.Settling.{settles}
use Rattle.system_totals.proofs.Walk.{room_kept}
use Rattle.ceilings_leaks.proofs.Leaking.{low_sizes, above_at, walk_start, walk_end, walk_limit, walk_settled, rules_start, rules_turn, rules_leak, rules_done, unused, covered, led_out, left_start, left_low, left_surely, left_next, left_covers, left_none, ceiling_turn, states_few, step_shape, leak_safe, leak_refused_at, state_none, beside_at, named_next, first_low, whole_of}
use Rattle.ceilings_leaks.proofs.leak_check.Goals as goal
use Rattle.ceilings_leaks.proofs.leak_check.Goals.{then-y-n+else-not-passes, else-y-n}

pub set_words-words-requires : goal.set_words-words-requires
set_words-words-requires c = record { ready = c.requires.joined_tables.ready; class_letters = c.requires.joined_tables.class_letters }

pub ceilings-init : goal.ceilings-init
ceilings-init c = (refl, search rules, refl, refl, refl, c.requires.kept_rules, refl)

pub offset_bounds-starts-k : goal.offset_bounds-starts-k
offset_bounds-starts-k c = record { fits = omega (arith, c.ceilings-test.true, c.requires.joined_tables.ready.limits.ceilings) }

pub bounds-starts-k : goal.bounds-starts-k
bounds-starts-k c = omega (arith, c.ceilings-test.true, c.requires.ceilings_ready.starts_table.room)

pub overflow_cast-first : goal.overflow_cast-first
overflow_cast-first c = omega (arith, c.type_inv.starts c.ceilings.k)

pub compare-over-requires : goal.compare-over-requires
compare-over-requires c =
    let h = c.ceilings.invariant in
    record {
      whole = whole_of _ _ c.requires.joined_tables.ready;
      in_form = c.requires.ceilings_ready.in_form;
      limits_table = c.requires.ceilings_ready.limits_table;
      holders = c.requires.ceilings_ready.held_by;
      k_lt_ceilings = (c.ceilings-test.true, c.requires.ceilings_ready.starts_table.start _ c.ceilings-test.true);
      n_in_bounds = omega (arith, h.4, c.requires.rooms.near_room);
    }

pub held_letters-requires : goal.held_letters-requires
held_letters-requires c =
    letters_ready c.args.ws.now _ _ _ _ _ _ c.requires.ceilings_ready.counted c.requires.joined_tables.few c.set_words-words.ensures c.ceilings-test.true (room_all _ _ _ _ c.requires.ceilings_ready.in_form c.requires.ceilings_ready.limits_table) (set_room c.requires.joined_tables.ready _ c.requires.joined_tables.few c.ceilings.invariant.6)

pub states-init : goal.states-init
states-init c =
    (refl, walk_start _ _ _ _ _ c.requires.groups_upto _ _ _ (begun _ _ _ _ c.requires.ceilings_ready.in_form c.requires.ceilings_ready.limits_table _ _ c.ceilings-test.true (c.requires.ceilings_ready.starts_table.start _ c.ceilings-test.true)), refl, refl, c.ceilings.invariant.5)

pub counter_at-i-requires : goal.counter_at-i-requires
counter_at-i-requires c = whole_of _ _ c.requires.joined_tables.ready

pub overflow_step-k : goal.overflow_step-k
overflow_step-k c = record { fits = omega (arith, c.states.invariant.0, c.ceilings-test.true, c.requires.joined_tables.ready.limits.ceilings) }

pub ceilings-smaller : goal.ceilings-smaller
ceilings-smaller c = omega (arith, c.states.invariant.0, c.ceilings-test.true)

pub ceilings-preserved : goal.ceilings-preserved
ceilings-preserved c =
    let h = c.states.invariant in
    let l = c.ceilings.invariant in
    let few = states_few _ _ _ _ c.requires.joined_tables.ready c.requires.ceilings_ready.counted c.requires.ceilings_ready.limits_table in
    (ceiling_turn _ _ _ _ _ _ l.0 h.0 c.ceilings-test.true (walk_end _ _ _ _ _ c.requires.groups_upto _ _ _ h.1 few (omega (arith, c.if-i-s.true, c.counter_at-i.ensures))), omega (arith, h.0, c.ceilings-test.true), h.2 ∙ l.2, h.3 ∙ l.3, c.compare-over.auto.near ∙ l.4, h.4, c.held_letters.auto.within ∙ l.6)

pub overflow_add-e : goal.overflow_add-e
overflow_add-e c = record { fits = omega (arith, ahead_inside _ _ _ _ _ _ c.states.invariant.1.ahead, entries_size c.args.ws.now c.args.s, c.requires.joined_tables.ready.limits.entries) }

pub left_after-left-requires : goal.left_after-left-requires
left_after-left-requires c =
    let h = c.states.invariant in
    let few = states_few _ _ _ _ c.requires.joined_tables.ready c.requires.ceilings_ready.counted c.requires.ceilings_ready.limits_table in
    record {
      beside = beside_at _ _ _ _ _ _ _ _ h.0 c.compare-over.ensures.beside;
      i_lt_n = (omega (arith, few, c.if-i-s.false), walk_limit _ _ _ _ _ c.requires.groups_upto _ _ _ h.1 few _ c.counter_at-i.ensures c.if-i-s.false);
    }

pub settled-requires : goal.settled-requires
settled-requires c = omega (arith, c.if-i-s.false, c.requires.states_in_bounds)

pub states-smaller-then-settled : goal.states-smaller-then-settled
states-smaller-then-settled c = omega (arith, ahead_inside _ _ _ _ _ _ c.states.invariant.1.ahead, entries_size c.args.ws.now c.args.s)

pub states-preserved-then-settled : goal.states-preserved-then-settled
states-preserved-then-settled c =
    let h = c.states.invariant in
    let g = c.requires.groups_upto in
    let few = states_few _ _ _ _ c.requires.joined_tables.ready c.requires.ceilings_ready.counted c.requires.ceilings_ready.limits_table in
    (h.0, walk_settled _ _ _ _ _ g _ _ _ h.1 few _ c.counter_at-i.ensures c.if-i-s.false (state_none _ _ _ _ _ _ (settles _ _ _ _ _ _ c.left_after-left.ensures (λ z. omega (arith, c.type_inv.limits z)) _ _ (above_at _ _ _ _ _ _ _ h.0 c.compare-over.ensures.above) _ _ _ _ c.if-i-s.false g (sym c.settled.ensures ∙ c.if-settled.true))), h.2, h.3, h.4)

pub rules_under-found-requires : goal.rules_under-found-requires
rules_under-found-requires c =
    let h = c.states.invariant in
    let l = c.ceilings.invariant in
    record {
      joined_tables = c.requires.joined_tables;
      under = record { counted = c.requires.ceilings_ready.counted; state = c.if-i-s.false; width = c.set_words-words.ensures; beside = beside_at _ _ _ _ _ _ _ _ h.0 c.compare-over.ensures.beside; remains = c.left_after-left.ensures; row = rw c.set_words-words.ensures (set_room c.requires.joined_tables.ready _ c.requires.joined_tables.few (c.held_letters.auto.within ∙ l.6)); holds = rw h.0 c.held_letters.ensures };
      rule_room = (room_kept _ _ _ _ _ _ c.requires.rooms.rules (h.2 ∙ l.2) (h.3 ∙ l.3), h.4);
    }

pub kind_at-kind-requires : goal.kind_at-kind-requires
kind_at-kind-requires c = record { ready = c.requires.joined_tables.ready; i_lt_states = c.if-i-s.false }

pub rules-init : goal.rules-init
rules-init c =
    let h = c.states.invariant in
    let few = states_few _ _ _ _ c.requires.joined_tables.ready c.requires.ceilings_ready.counted c.requires.ceilings_ready.limits_table in
    let r = c.rules_under-found.ensures.rules_seen in
    (rules_start _ _ _ _ _ c.requires.groups_upto _ _ _ h.1 few _ c.counter_at-i.ensures c.if-i-s.false _ _ _ _ _ r c.kind_at-kind.ensures.value, r.asked.order, omega arith, r)

pub states-smaller : goal.states-smaller
states-smaller c = omega (arith, ahead_inside _ _ _ _ _ _ c.states.invariant.1.ahead, entries_size c.args.ws.now c.args.s)

pub states-preserved : goal.states-preserved
states-preserved c =
    let h = c.states.invariant in
    let few = states_few _ _ _ _ c.requires.joined_tables.ready c.requires.ceilings_ready.counted c.requires.ceilings_ready.limits_table in
    (h.0, rules_done _ _ _ _ _ c.requires.groups_upto _ _ _ h.1 few _ c.counter_at-i.ensures c.if-i-s.false _ _ _ _ _ c.rules.invariant.3 c.kind_at-kind.ensures.value _ c.rules-test.false c.rules.invariant.0, c.rules_under-found.auto.tos ∙ h.2, c.rules_under-found.auto.others ∙ h.3, c.rules_under-found.ensures.kept_rules)

pub offset_bounds-tos-j : goal.offset_bounds-tos-j
offset_bounds-tos-j c = record { fits = omega (arith, c.rules-test.true, c.rules.invariant.3.asked.tos_room, c.rules_under-found.auto.tos, c.states.invariant.2, c.ceilings.invariant.2, c.well_formed.1.1.1.1.1.1.1.1.1.1.1.1.1.1.0) }

pub bounds-tos-j : goal.bounds-tos-j
bounds-tos-j c = omega (arith, c.rules-test.true, c.rules.invariant.3.asked.tos_room)

pub overflow_cast-to : goal.overflow_cast-to
overflow_cast-to c = omega (arith, c.type_inv.tos c.rules.j)

pub offset_bounds-others-j : goal.offset_bounds-others-j
offset_bounds-others-j c = record { fits = omega (arith, c.rules-test.true, c.rules.invariant.3.asked.others_room, c.rules_under-found.auto.others, c.states.invariant.3, c.ceilings.invariant.3, c.well_formed.1.1.1.1.1.1.1.1.1.1.1.1.1.1.1.0) }

pub bounds-others-j : goal.bounds-others-j
bounds-others-j c = omega (arith, c.rules-test.true, c.rules.invariant.3.asked.others_room)

pub overflow_cast-other : goal.overflow_cast-other
overflow_cast-other c = omega (arith, c.type_inv.others c.rules.j)

pub is_usable-requires : goal.is_usable-requires
is_usable-requires c =
    let h = c.states.invariant in
    record {
      k_lt_ceilings = (omega (arith, h.0, c.ceilings-test.true), room_all _ _ _ _ c.requires.ceilings_ready.in_form c.requires.ceilings_ready.limits_table);
      step_apart = step_shape _ _ _ _ c.requires.joined_tables.ready c.requires.ceilings_ready.counted c.requires.ceilings_ready.limits_table c.ceilings.k _ _ _ _ _ _ _ c.if-i-s.false c.rules.invariant.3 c.kind_at-kind.ensures.value c.kind_at-kind.ensures.upper_bound c.rules.invariant.2 c.rules-test.true;
    }

pub rules-preserved-then-not-is_usable : goal.rules-preserved-then-not-is_usable
rules-preserved-then-not-is_usable c =
    let h = c.states.invariant in
    let few = states_few _ _ _ _ c.requires.joined_tables.ready c.requires.ceilings_ready.counted c.requires.ceilings_ready.limits_table in
    (rules_turn _ _ _ _ _ c.requires.groups_upto _ _ _ h.1 few _ c.counter_at-i.ensures c.if-i-s.false _ _ _ _ _ c.rules.invariant.3 c.kind_at-kind.ensures.value _ c.rules-test.true c.rules.invariant.0 (unused _ _ _ _ _ _ (sym c.is_usable.ensures ∙ c.if-not-is_usable.true)), omega (arith, c.rules-test.true), omega (arith, c.rules.invariant.2), c.rules.invariant.3)

pub candidates-mask-requires : goal.candidates-mask-requires
candidates-mask-requires c =
    let h = c.states.invariant in
    record {
      beside = beside_at _ _ _ _ _ _ _ _ h.0 c.compare-over.ensures.beside;
      step_apart = step_shape _ _ _ _ c.requires.joined_tables.ready c.requires.ceilings_ready.counted c.requires.ceilings_ready.limits_table c.ceilings.k _ _ _ _ _ _ _ c.if-i-s.false c.rules.invariant.3 c.kind_at-kind.ensures.value c.kind_at-kind.ensures.upper_bound c.rules.invariant.2 c.rules-test.true;
      left = c.left_after-left.ensures;
      k_value = sym c.is_usable.ensures ∙ c.if-not-is_usable.false;
    }

pub overflow_step-j-then-surely_covered : goal.overflow_step-j-then-surely_covered
overflow_step-j-then-surely_covered c = record { fits = omega (arith, c.rules-test.true, c.rules.invariant.3.asked.tos_room, c.rules_under-found.auto.tos, c.states.invariant.2, c.ceilings.invariant.2, c.well_formed.1.1.1.1.1.1.1.1.1.1.1.1.1.1.0) }

pub rules-preserved-then-surely_covered : goal.rules-preserved-then-surely_covered
rules-preserved-then-surely_covered c =
    let h = c.states.invariant in
    let few = states_few _ _ _ _ c.requires.joined_tables.ready c.requires.ceilings_ready.counted c.requires.ceilings_ready.limits_table in
    let some = left_surely c.args.ws.now c.args.s _ _ _ _ _ c.candidates-mask.ensures.candidates c.requires.joined_tables.ready.limits.ceilings c.candidates-mask.ensures.exact (sym c.surely_covered.ensures ∙ c.if-surely_covered.true) in
    (rules_turn _ _ _ _ _ c.requires.groups_upto _ _ _ h.1 few _ c.counter_at-i.ensures c.if-i-s.false _ _ _ _ _ c.rules.invariant.3 c.kind_at-kind.ensures.value _ c.rules-test.true c.rules.invariant.0 (covered _ _ _ _ _ _ (sym c.is_usable.ensures ∙ c.if-not-is_usable.false) some), omega (arith, c.rules-test.true), omega (arith, c.rules.invariant.2), c.rules.invariant.3)

pub first_set-a-requires : goal.first_set-a-requires
first_set-a-requires c = tt

pub candidates-init : goal.candidates-init
candidates-init c = (refl, left_start _ _ _ _ _ _ _ c.candidates-mask.ensures.candidates c.requires.joined_tables.ready.limits.ceilings _ c.first_set-a.ensures)

pub loop-b-init : goal.loop-b-init
loop-b-init c = (search rules, λ x h. absurd (omega (arith, h)))

pub named-y-requires : goal.named-y-requires
named-y-requires c = c.loop-b-test.true

pub passes-requires : goal.passes-requires
passes-requires c =
    let h = c.states.invariant in
    record {
      k_lt_ceilings = (omega (arith, h.0, c.ceilings-test.true), left_low _ _ _ _ _ _ _ c.candidates-mask.ensures.candidates c.requires.joined_tables.ready.limits.ceilings _ c.candidates.invariant.1 c.candidates-test.true);
      row = row_at _ _ _ _ c.requires.ceilings_ready.in_form c.requires.ceilings_ready.limits_table _ c.if-y-n.true;
      kind_bound = c.kind_at-kind.ensures.upper_bound;
    }

pub overflow_add-k2 : goal.overflow_add-k2
overflow_add-k2 c = record { fits = omega (arith, c.candidates-test.true) }

pub next_in-a-requires : goal.next_in-a-requires
next_in-a-requires c = omega (arith, c.candidates-test.true)

pub candidates-smaller : goal.candidates-smaller
candidates-smaller c = omega (arith, first_low _ _ _ (omega (arith, c.candidates-test.true)) c.next_in-a.ensures, c.candidates-test.true)

pub candidates-preserved : goal.candidates-preserved
candidates-preserved c =
    (c.candidates.invariant.0, left_next _ _ _ _ _ _ _ c.candidates-mask.ensures.candidates c.requires.joined_tables.ready.limits.ceilings _ c.candidates.invariant.1 c.candidates-test.true _ c.next_in-a.ensures (covers_not _ _ _ _ _ _ _ c.if-y-n.true (sym c.passes.ensures ∙ c.if-not-passes.true)))

pub loop-b-preserved : goal.loop-b-preserved
loop-b-preserved c =
    (omega (arith, c.loop-b-test.true), named_next _ _ _ _ _ _ _ _ c.named-y.ensures (elim c.if-y-n.branch [ then-y-n+else-not-passes w ↦ λ l. sym w.passes.ensures ∙ w.if-not-passes.false | else-y-n w ↦ λ l. absurd (omega (arith, w.if-y-n.false, l)) ]) c.loop-b.invariant.1)

pub overflow_step-j-in-candidates : goal.overflow_step-j-in-candidates
overflow_step-j-in-candidates c = record { fits = omega (arith, c.candidates.invariant.0, c.rules-test.true, c.rules.invariant.3.asked.tos_room, c.rules_under-found.auto.tos, c.states.invariant.2, c.ceilings.invariant.2, c.well_formed.1.1.1.1.1.1.1.1.1.1.1.1.1.1.0) }

pub rules-smaller : goal.rules-smaller
rules-smaller c = omega (arith, c.candidates.invariant.0, c.rules-test.true)

pub rules-preserved : goal.rules-preserved
rules-preserved c =
    let h = c.states.invariant in
    let few = states_few _ _ _ _ c.requires.joined_tables.ready c.requires.ceilings_ready.counted c.requires.ceilings_ready.limits_table in
    let shape = step_shape _ _ _ _ c.requires.joined_tables.ready c.requires.ceilings_ready.counted c.requires.ceilings_ready.limits_table c.ceilings.k _ _ _ _ _ _ _ c.if-i-s.false c.rules.invariant.3 c.kind_at-kind.ensures.value c.kind_at-kind.ensures.upper_bound c.rules.invariant.2 c.rules-test.true in
    let d = c.candidates.invariant in
    let low = left_low _ _ _ _ _ _ _ c.candidates-mask.ensures.candidates c.requires.joined_tables.ready.limits.ceilings _ d.1 c.candidates-test.true in
    let some = left_covers _ _ _ _ _ _ _ c.candidates-mask.ensures.candidates c.requires.joined_tables.ready.limits.ceilings _ d.1 c.candidates-test.true (candidate_covers _ _ _ _ _ shape _ _ low (d.1.in_mask c.candidates-test.true) c.candidates-mask.ensures.candidates (λ x l. c.loop-b.invariant.1 x (omega (arith, l, c.loop-b-test.false)))) in
    rw d.0 (rules_turn _ _ _ _ _ c.requires.groups_upto _ _ _ h.1 few _ c.counter_at-i.ensures c.if-i-s.false _ _ _ _ _ c.rules.invariant.3 c.kind_at-kind.ensures.value _ c.rules-test.true c.rules.invariant.0 (covered _ _ _ _ _ _ (sym c.is_usable.ensures ∙ c.if-not-is_usable.false) some), omega (arith, c.rules-test.true), omega (arith, c.rules.invariant.2), c.rules.invariant.3)

pub ceilings_at-requires : goal.ceilings_at-requires
ceilings_at-requires c = low_sizes _ c.requires.joined_tables.ready.limits

pub overflow_add-place : goal.overflow_add-place
overflow_add-place c = record { fits = omega (arith, c.ceilings_at.ensures, begins_low _ c.requires.joined_tables.ready.limits) }

pub overflow_add-place-in-rules : goal.overflow_add-place-in-rules
overflow_add-place-in-rules c = record { fits = omega (arith, c.ceilings_at.ensures, begins_low _ c.requires.joined_tables.ready.limits, c.type_inv.starts c.ceilings.k) }

pub shape_of-tos-in-rules : goal.shape_of-tos-in-rules
shape_of-tos-in-rules c = c.rules_under-found.auto.tos ∙ (c.states.invariant.2 ∙ c.ceilings.invariant.2)

pub shape_of-others-in-rules : goal.shape_of-others-in-rules
shape_of-others-in-rules c = c.rules_under-found.auto.others ∙ (c.states.invariant.3 ∙ c.ceilings.invariant.3)

pub shape_of-near-in-rules : goal.shape_of-near-in-rules
shape_of-near-in-rules c = c.compare-over.auto.near ∙ c.ceilings.invariant.4

pub returns-in-rules : goal.returns-in-rules
returns-in-rules c =
    let h = c.states.invariant in
    let few = states_few _ _ _ _ c.requires.joined_tables.ready c.requires.ceilings_ready.counted c.requires.ceilings_ready.limits_table in
    let none = left_none _ _ _ _ _ _ _ c.candidates-mask.ensures.candidates c.requires.joined_tables.ready.limits.ceilings _ c.candidates.invariant.1 c.candidates-test.false in
    let out = rules_leak _ _ _ _ _ c.requires.groups_upto _ _ _ h.1 few _ c.counter_at-i.ensures c.if-i-s.false _ _ _ _ _ c.rules.invariant.3 c.kind_at-kind.ensures.value _ c.rules-test.true c.rules.invariant.0 (led_out _ _ _ _ _ _ (sym c.is_usable.ensures ∙ c.if-not-is_usable.false) none) in
    leak_refused_at _ _ _ _ c.requires.joined_tables.ready c.requires.ceilings_ready.counted c.requires.ceilings_ready.limits_table _ _ _ _ _ c.requires.ceilings_ready.starts_table h.0 c.ceilings-test.true c.ceilings.invariant.0 out c.ceilings_at.ensures refl

pub shape_of-tos : goal.shape_of-tos
shape_of-tos c = c.ceilings.invariant.2

pub shape_of-others : goal.shape_of-others
shape_of-others c = c.ceilings.invariant.3

pub shape_of-near : goal.shape_of-near
shape_of-near c = c.ceilings.invariant.4

pub returns : goal.returns
returns c =
    leak_safe _ _ _ _ c.requires.joined_tables.ready c.requires.ceilings_ready.counted c.requires.ceilings_ready.limits_table _ c.ceilings-test.false c.ceilings.invariant.1 c.ceilings.invariant.0
