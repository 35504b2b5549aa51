use native.Mathlib.Omega.{arith}
use mathlib.Core.Path.{refl}
use borrow.Author.Rules.{rules}
use Rattle.model.specs.Words.{columns}
use Rattle.model.specs.Rows.{program}
use Rattle.lists.proofs.Facts.{columns_whole}
use Rattle.values.proofs.Gathered.{width_above}
use Rattle.matching.proofs.Chains.{made_low, build_first, build_next}
use Rattle.matching_sets.proofs.Joining.{row_kept, building_begin, building_next, building_over}
use Rattle.matching_sets.proofs.equals.put_builds.Goals as goal

pub overflow_add-u : goal.overflow_add-u
overflow_add-u c = omega (arith, c.requires.build_ready.ready.whole.rows, c.requires.row.1.1)

pub word-v-requires : goal.word-v-requires
unfolding program
word-v-requires c =
    omega (arith, c.requires.build_ready.builds.first_room, made_low c.requires.build_ready.ready _ _ _ refl c.requires.row.1.0 c.num-k.ensures)

pub loop-v-init : goal.loop-v-init
unfolding program
loop-v-init c = building_begin _ _ _ _ _ _ (build_first c.requires.build_ready.builds _ _ _ c.num-k.ensures (made_low c.requires.build_ready.ready _ _ _ refl c.requires.row.1.0 refl) c.word-v.ensures.0)

pub put-requires : goal.put-requires
put-requires c = record {
  v_bound = rw c.width-w.ensures (width_above _ _ (search rules));
  row = row_kept c.width-w.ensures c.requires.row.0 c.loop-v.invariant.joined.long;
}

pub word-v-requires-in-loop-v : goal.word-v-requires-in-loop-v
unfolding program columns
word-v-requires-in-loop-v c = omega (arith, c.requires.build_ready.builds.next_room)

pub loop-v-smaller : goal.loop-v-smaller
unfolding program columns
loop-v-smaller c = omega (arith, (build_next c.requires.build_ready.builds _ _ _ (search rules) (c.loop-v.invariant.here (search rules)) c.word-v-in-loop-v.ensures.0).1)

pub loop-v-preserved : goal.loop-v-preserved
unfolding program columns
loop-v-preserved c = building_next _ _ _ _ _ _ _ _ _ c.loop-v.invariant (search rules) c.put.ensures (build_next c.requires.build_ready.builds _ _ _ (search rules) (c.loop-v.invariant.here (search rules)) c.word-v-in-loop-v.ensures.0).0

pub shape_of-sets : goal.shape_of-sets
shape_of-sets c = c.loop-v.invariant.joined.long

pub returns : goal.returns
unfolding program columns
returns c = building_over _ _ (columns_whole c.requires.build_ready.ready) _ _ _ _ _ _ c.width-w.ensures c.loop-v.invariant (search rules)
