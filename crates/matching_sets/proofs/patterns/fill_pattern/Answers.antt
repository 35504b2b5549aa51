use native.Mathlib.Omega.{arith}
use Rattle.model.specs.Words.{columns}
use Rattle.model.specs.Rows.{program}
use Rattle.model.specs.Closed.{is_same_constructor}
use Rattle.lists.proofs.Facts.{rows_fit, columns_whole}
use Rattle.values.proofs.Gathered.{width_above, room_row}
use Rattle.matching.specs.Patterns.{is_build}
use Rattle.matching.proofs.Chains.{build_first, build_next}
use Rattle.matching.proofs.Subpatterns.{pattern_stands, pattern_constructor}
use Rattle.matching_sets.proofs.Filling.{fill_match, filling_begin, filling_next, filling_over, still, still_clear, same_room}
use borrow.Author.Rules.{rules}
use Rattle.matching_sets.proofs.patterns.fill_pattern.Goals as goal

pub num-made-requires : goal.num-made-requires
num-made-requires c = c.requires.fill_ready.ready.whole

pub word-v-requires : goal.word-v-requires
unfolding program columns
word-v-requires c = let z = pattern_constructor (pattern_stands (rows_fit c.requires.fill_ready.ready) _ c.requires.filled_from.1.1 c.requires.filled_from.1.0) c.requires.filled_from.1.0 in omega (arith, z, c.requires.fill_ready.builds.first_room, c.num-made.ensures)

pub loop-v-init : goal.loop-v-init
unfolding program columns
loop-v-init c = let z = pattern_constructor (pattern_stands (rows_fit c.requires.fill_ready.ready) _ c.requires.filled_from.1.1 c.requires.filled_from.1.0) c.requires.filled_from.1.0 in filling_begin _ _ _ _ c.requires.filled_from.1.0 _ _ _ (rw c.width-w.ensures c.requires.filled_from.0.may_clear) (rw c.width-w.ensures c.requires.filled_from.0.held_clear) (build_first c.requires.fill_ready.builds _ _ _ c.num-made.ensures z c.word-v.ensures.0)

pub arguments_code-code-requires : goal.arguments_code-code-requires
unfolding program columns is_build is_same_constructor
arguments_code-code-requires c = record {
  cases = fill_match c.requires.fill_ready (still _ _ _ _ c.requires.filled_from.1.0 _ _ _ _ _ c.width-w.ensures c.loop-v.invariant c.requires.filled_from.0.patterns);
  same_made = record { stands = pattern_stands (rows_fit c.requires.fill_ready.ready) _ c.requires.filled_from.1.1 c.requires.filled_from.1.0; made = c.requires.filled_from.1.0; same = c.loop-v.invariant.here (search rules) };
}

pub put_if-requires : goal.put_if-requires
put_if-requires c = record {
  v_bound = rw c.width-w.ensures (width_above _ _ (search rules));
  row = room_row _ _ _ _ _ _ c.width-w.ensures c.requires.filled_from.0.may_room c.loop-v.invariant.may_long c.requires.filled_from.1.1;
}

pub put_if-requires-in-loop-v : goal.put_if-requires-in-loop-v
put_if-requires-in-loop-v c = record {
  v_bound = rw c.width-w.ensures (width_above _ _ (search rules));
  row = room_row _ _ _ _ _ _ c.width-w.ensures c.requires.filled_from.0.held_room c.loop-v.invariant.held_long c.requires.filled_from.1.1;
}

pub word-v-requires-in-loop-v : goal.word-v-requires-in-loop-v
unfolding program columns
word-v-requires-in-loop-v c = omega (arith, c.requires.fill_ready.builds.next_room)

pub loop-v-smaller : goal.loop-v-smaller
unfolding program columns
loop-v-smaller c = omega (arith, (build_next c.requires.fill_ready.builds _ _ _ (search rules) (c.loop-v.invariant.here (search rules)) c.word-v-in-loop-v.ensures.0).1)

pub loop-v-preserved : goal.loop-v-preserved
unfolding program columns
loop-v-preserved c = filling_next _ _ _ _ c.requires.filled_from.1.0 _ _ _ _ _ _ _ _ c.loop-v.invariant c.arguments_code-code.ensures (rw c.width-w.ensures (width_above _ _ (search rules))) c.put_if.ensures c.put_if-in-loop-v.ensures _ (search rules) (build_next c.requires.fill_ready.builds _ _ _ (search rules) (c.loop-v.invariant.here (search rules)) c.word-v-in-loop-v.ensures.0).0

pub shape_of-may : goal.shape_of-may
shape_of-may c = c.loop-v.invariant.may_long

pub shape_of-held : goal.shape_of-held
shape_of-held c = c.loop-v.invariant.held_long

pub returns : goal.returns
unfolding program columns
returns c =
    let f = c.loop-v.invariant in
    let w = c.width-w.ensures in
    let a = same_room _ _ f.may_long c.requires.filled_from.0.may_room in
    let b = same_room _ _ f.held_long c.requires.filled_from.0.held_room in
    record {
      may_room = a;
      held_room = b;
      may_clear = rw (← w) (still_clear f.may_others (rw w c.requires.filled_from.0.may_clear));
      held_clear = rw (← w) (still_clear f.held_others (rw w c.requires.filled_from.0.held_clear));
      patterns = filling_over _ _ _ _ c.requires.filled_from.1.0 (columns_whole c.requires.fill_ready.ready) _ _ _ _ _ f (search rules) w c.requires.filled_from.0.patterns a b;
    }
