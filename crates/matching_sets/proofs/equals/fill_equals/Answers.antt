use native.Mathlib.Omega.{arith}
use mathlib.Core.Path.{refl}
use borrow.Author.Rules.{rules}
use Rattle.values.specs.Values.{width}
use Rattle.matching_sets.proofs.Joining.{row_kept, equals_begin, equals_next, equals_skip, held_row, held_alike, held_over}
use Rattle.matching_sets.proofs.equals.fill_equals.Goals as goal

pub overflow_mul-u-end : goal.overflow_mul-u-end
unfolding width
overflow_mul-u-end c = omega (arith, c.requires.build_ready.ready.whole.rows)

pub loop-u-init : goal.loop-u-init
loop-u-init c = (equals_begin _ _ _ _ _ _, search rules)

pub holds-requires : goal.holds-requires
holds-requires c = record { v_bound = search rules; row = row_kept c.width-w.ensures (held_row c.requires.build_ready.ready c.requires.held_name _ c.num-n.ensures).row refl }

pub overflow_step-u : goal.overflow_step-u
unfolding width
overflow_step-u c = omega (arith, c.width-w.ensures, c.requires.build_ready.ready.whole.rows)

pub loop-u-preserved-then-not-holds : goal.loop-u-preserved-then-not-holds
loop-u-preserved-then-not-holds c = (equals_skip _ _ _ _ _ _ _ c.loop-u.invariant.0 c.holds.ensures c.if-not-holds.true, search rules)

pub put_equals-requires : goal.put_equals-requires
put_equals-requires c = record {
  build_ready = c.requires.build_ready;
  equals_room = record { low = omega (arith, c.width-w.ensures); row = row_kept refl c.requires.held_name.row c.loop-u.invariant.0.long; alike = held_alike _ _ _ _ _ _ _ c.width-w.ensures c.loop-u.invariant.0 c.requires.held_name.clear };
}

pub overflow_step-u-in-loop-u : goal.overflow_step-u-in-loop-u
unfolding width
overflow_step-u-in-loop-u c = omega (arith, c.width-w.ensures, c.requires.build_ready.ready.whole.rows)

pub loop-u-preserved : goal.loop-u-preserved
loop-u-preserved c = (equals_next _ _ _ _ _ _ _ c.loop-u.invariant.0 c.holds.ensures c.if-not-holds.false (rw (← c.width-w.ensures) at c.put_equals.ensures), search rules)

pub shape_of-may : goal.shape_of-may
shape_of-may c = c.loop-u.invariant.0.long

pub returns : goal.returns
returns c = held_over _ _ _ _ _ _ _ c.width-w.ensures c.loop-u.invariant.0 (held_row c.requires.build_ready.ready c.requires.held_name _ c.num-n.ensures) c.num-n.ensures (search rules)
