use Prim.Native.Nat.{◌-◌}
use native.Mathlib.Omega.{arith}
use Rattle.system_letters.proofs.Tables.{head_low}
use Rattle.pattern_letters.proofs.Arguments.{asked, unasked, next_there, fitting_left, next_lost}
use Rattle.pattern_heads.proofs.Fitting.{head_room}
use Rattle.sent_letters.proofs.Found.{wide_row}
use Rattle.pattern_letters.proofs.Lessening.{heads_first, heads_kept, heads_lost, heads_over, heads_any, digit_room, digit_number, head_below, heads_above}
use Rattle.pattern_letters.proofs.Passing.{next_above, passed_over}
use borrow.Author.Rules.{rules}
use Rattle.pattern_letters.proofs.leave_argument.Goals as goal

pub asks-requires : goal.asks-requires
asks-requires c = c.requires.leaving_tables.match_tables.ready

pub returns-then-not-asks : goal.returns-then-not-asks
returns-then-not-asks c = let (e, f) = unasked _ _ _ c.asks.ensures c.if-not-asks.true in heads_any _ _ _ _ _ _ _ c.requires.leaving_tables.wide c.requires.pattern.1 e f

pub overflow_add-end : goal.overflow_add-end
overflow_add-end c = omega (arith, c.requires.leaving_tables.match_tables.ready.limits.constructors)

pub loop-s-init : goal.loop-s-init
loop-s-init c = (search rules, search rules, heads_first _ _ _ _ _ _ _ c.requires.leaving_tables.wide c.requires.pattern.1)

pub next_of_two-h-requires : goal.next_of_two-h-requires
next_of_two-h-requires c = record {
  row = (head_room c.requires.leaving_tables.match_tables _ 0 c.requires.i_lt_max_arity.1 (omega arith)).1;
  from_le_end = (c.loop-s.invariant.1, omega (arith, c.loop-s.invariant.0, c.requires.leaving_tables.match_tables.ready.limits.constructors));
}

pub shape_of-part-then-h-end : goal.shape_of-part-then-h-end
shape_of-part-then-h-end c = c.loop-s.invariant.2.long

pub returns-then-h-end : goal.returns-then-h-end
returns-then-h-end c = heads_over _ _ _ _ _ (head_low c.requires.leaving_tables.match_tables.ready) _ _ _ (heads_above _ _ _ (omega (arith, c.loop-s.invariant.0, c.if-h-end.true))) (passed_over c.requires.leaving_tables.match_tables _ _ _ _ _ _ _ _ c.requires.i_lt_max_arity.1 c.loop-s.invariant.0 c.loop-s.invariant.1 c.next_of_two-h.ensures c.loop-s.invariant.2)

pub head_fits-requires : goal.head_fits-requires
head_fits-requires c = record {
  cases = c.requires.leaving_tables.match_tables;
  pattern = c.requires.pattern.0;
  fact = asked _ _ _ c.asks.ensures c.if-not-asks.false;
  n_lt_names = (c.requires.i_lt_max_arity.1, (omega (arith, c.loop-s.invariant.0, c.if-h-end.false)));
  h_value = next_there c.requires.leaving_tables.match_tables _ 0 _ c.requires.i_lt_max_arity.1 (omega (arith, c.loop-s.invariant.0, c.if-h-end.false)) _ _ c.loop-s.invariant.1 c.next_of_two-h.ensures (omega (arith, c.if-h-end.false));
}

pub loop-s-smaller-then-head_fits : goal.loop-s-smaller-then-head_fits
loop-s-smaller-then-head_fits c = omega (arith, c.if-h-end.false, next_above _ _ _ _ c.loop-s.invariant.1 c.next_of_two-h.ensures)

pub loop-s-preserved-then-head_fits : goal.loop-s-preserved-then-head_fits
loop-s-preserved-then-head_fits c = (c.loop-s.invariant.0, omega (arith, c.if-h-end.false), heads_kept _ _ _ _ _ _ _ _ (fitting_left c.requires.leaving_tables.match_tables _ _ _ c.requires.i_lt_max_arity.1 (omega (arith, c.loop-s.invariant.0, c.if-h-end.false)) _ c.head_fits.ensures c.if-head_fits.true) (passed_over c.requires.leaving_tables.match_tables _ _ _ _ _ _ _ _ c.requires.i_lt_max_arity.1 c.loop-s.invariant.0 c.loop-s.invariant.1 c.next_of_two-h.ensures c.loop-s.invariant.2))

pub argument_set-set-requires : goal.argument_set-set-requires
argument_set-set-requires c = record {
  within_limits = c.requires.leaving_tables.match_tables.ready.limits;
  i_lt_max_arity = (c.requires.i_lt_max_arity.0, (omega (arith, c.loop-s.invariant.0, c.if-h-end.false)));
}

pub take_from-requires : goal.take_from-requires
take_from-requires c = (wide_row _ _ _ c.requires.leaving_tables.wide c.loop-s.invariant.2.row, digit_room _ _ _ _ c.requires.leaving_tables.letter_sets_of _ _ _ c.requires.leaving_tables.wide (digit_number _ _ _ _ _ c.argument_set-set.ensures) c.requires.i_lt_max_arity.0 (head_below _ _ _ (omega (arith, c.loop-s.invariant.0, c.if-h-end.false))))

pub loop-s-smaller : goal.loop-s-smaller
loop-s-smaller c = omega (arith, c.if-h-end.false, next_above _ _ _ _ c.loop-s.invariant.1 c.next_of_two-h.ensures)

pub loop-s-preserved : goal.loop-s-preserved
loop-s-preserved c = (c.loop-s.invariant.0, omega (arith, c.if-h-end.false), heads_lost _ _ _ _ _ _ c.requires.leaving_tables.letter_sets_of _ _ _ _ _ _ c.requires.leaving_tables.wide (digit_number _ _ _ _ _ c.argument_set-set.ensures) c.requires.i_lt_max_arity.0 (head_below _ _ _ (omega (arith, c.loop-s.invariant.0, c.if-h-end.false))) (next_lost c.requires.leaving_tables.match_tables _ _ _ c.requires.i_lt_max_arity.1 (omega (arith, c.loop-s.invariant.0, c.if-h-end.false)) _ _ c.loop-s.invariant.1 c.next_of_two-h.ensures (omega (arith, c.if-h-end.false)) _ c.head_fits.ensures c.if-head_fits.false) (passed_over c.requires.leaving_tables.match_tables _ _ _ _ _ _ _ _ c.requires.i_lt_max_arity.1 c.loop-s.invariant.0 c.loop-s.invariant.1 c.next_of_two-h.ensures c.loop-s.invariant.2) c.take_from.ensures)
