use native.Mathlib.Omega.{arith}
use mathlib.Core.Path.{sym, ◌∙◌}
use Rattle.model.specs.Words.{columns}
use Rattle.ceilings_form.specs.Parts.{part_entries}
use Rattle.ceilings_form.proofs.Reading.{in_bound_below, at_first, passed_all, refused_behind, refused_early, refused_open, refused_wrong, closed_so_far, next_so_far, fewer_left}
use Rattle.ceilings_form.proofs.entries.first_wrong.Goals as goal
use Rattle.ceilings_form.proofs.entries.first_wrong.Goals.{then-x-n+else-number-ne0, else-x-n+else-not-in_bound}

pub loop-e-init : goal.loop-e-init
loop-e-init c = at_first _ _ _ _

pub returns-then-closed-count : goal.returns-then-closed-count
unfolding part_entries columns
returns-then-closed-count c = let h = c.loop-e in refused_behind _ _ _ _ h.e h.least h.closed h.invariant c.loop-e-test.true c.if-closed-count.true

pub entry_counter-x-requires : goal.entry_counter-x-requires
entry_counter-x-requires c = c.requires.part_held

pub entry_number-number-requires : goal.entry_number-number-requires
entry_number-number-requires c = c.requires.part_held

pub returns-then-number-ne0 : goal.returns-then-number-ne0
unfolding part_entries columns
returns-then-number-ne0 c = let h = c.loop-e in refused_open _ _ _ _ h.e h.least h.closed h.invariant c.if-closed-count.false c.loop-e-test.true _ _ c.entry_counter-x.ensures c.entry_number-number.ensures c.if-x-n.true c.if-number-ne0.true

pub overflow_add-closed : goal.overflow_add-closed
overflow_add-closed c = record { fits = omega (arith, c.loop-e.invariant.1, c.if-closed-count.false) }

pub in_bound-requires : goal.in_bound-requires
in_bound-requires c = tt

pub returns-then-not-in_bound : goal.returns-then-not-in_bound
unfolding part_entries columns
returns-then-not-in_bound c = let h = c.loop-e in refused_wrong _ _ _ _ h.e h.least h.closed h.invariant c.if-closed-count.false c.loop-e-test.true _ _ c.entry_counter-x.ensures c.entry_number-number.ensures c.if-x-n.false (sym c.in_bound.ensures ∙ c.if-not-in_bound.true)

pub overflow_add-least : goal.overflow_add-least
overflow_add-least c = record { fits = omega (arith, (in_bound_below _ _ _ _ _ (sym c.in_bound.ensures ∙ c.if-not-in_bound.false)).1, c.requires.n_le_max_counters) }

pub overflow_step-e : goal.overflow_step-e
overflow_step-e c = record { fits = omega (arith, c.loop-e-test.true, c.requires.part_held.few) }

pub loop-e-smaller : goal.loop-e-smaller
loop-e-smaller c = fewer_left _ _ c.loop-e-test.true

pub loop-e-preserved : goal.loop-e-preserved
unfolding part_entries columns
loop-e-preserved c =
    let h = c.loop-e in
    let more = c.if-closed-count.false in
    let inside = c.loop-e-test.true in
    let x = c.entry_counter-x.ensures in
    let l = c.entry_number-number.ensures in
    elim c.if-x-n.branch [
      | then-x-n+else-number-ne0 w ↦ closed_so_far _ _ _ _ h.e h.least h.closed h.invariant more inside _ _ x l w.if-x-n.true w.if-number-ne0.false _ _ w.least-is w.closed-is
      | else-x-n+else-not-in_bound w ↦ next_so_far _ _ _ _ h.e h.least h.closed h.invariant more inside _ _ x l w.if-x-n.false (sym w.in_bound.ensures ∙ w.if-not-in_bound.false) _ _ w.least-is w.closed-is
    ]

pub returns-then-closed-count-2 : goal.returns-then-closed-count-2
unfolding part_entries columns
returns-then-closed-count-2 c = let h = c.loop-e in refused_early _ _ _ _ h.e h.least h.closed h.invariant c.loop-e-test.false c.if-closed-count-2.true

pub returns : goal.returns
unfolding part_entries columns
returns c = let h = c.loop-e in passed_all _ _ _ _ h.e h.least h.closed h.invariant c.loop-e-test.false c.if-closed-count-2.false
