use native.Mathlib.Omega.{arith}
use Rattle.model.specs.Words.{columns}
use Rattle.model.specs.Tables.{tables, entries}
use Rattle.model.specs.Rules.{rules}
use Rattle.system_totals.proofs.Walk.{walk_begin, walk_next, walk_room}
use Rattle.system_listing.proofs.Putting.{put_begin, put_kept, put_more, put_room, put_ends, state_room, state_put}
use Rattle.system_listing.proofs.write_rules.Goals as goal

pub loop-i-init : goal.loop-i-init
loop-i-init c = (put_begin _ _ _ 0 _, walk_begin _ _ _, omega arith)

pub guess_class-requires : goal.guess_class-requires
guess_class-requires c = c.requires.joined_tables.ready

pub rules_of-m-requires : goal.rules_of-m-requires
rules_of-m-requires c = record { joined_tables = c.requires.joined_tables; i_lt_states = c.loop-i-test.true; rule_room = walk_room _ _ _ _ _ _ c.loop-i.invariant.1 _ _ c.requires.rule_room }

pub state_head-head-requires : goal.state_head-head-requires
state_head-head-requires c = c.requires.joined_tables.ready

pub put_rules-e-requires : goal.put_rules-e-requires
unfolding rules tables entries columns
put_rules-e-requires c = record {
  m_in_bounds = (c.rules_of-m.ensures.tos_room, c.rules_of-m.ensures.others_room);
  i_bound = omega (arith, c.loop-i-test.true, c.requires.joined_tables.ready.limits.states);
  room = state_room _ _ _ _ _ _ _ c.rules_of-m.ensures c.state_head-head.ensures _ _ _ (put_room _ _ _ _ _ _ 0 c.loop-i.i c.loop-i.invariant.0 (omega arith) _ c.loop-i-test.true c.requires.room);
}

pub loop-i-preserved : goal.loop-i-preserved
loop-i-preserved c = (put_more _ _ _ _ _ _ 0 c.loop-i.i c.loop-i.invariant.0 (omega arith) _ _ (state_put _ _ _ _ _ _ _ c.rules_of-m.ensures c.state_head-head.ensures _ _ _ _ _ c.put_rules-e.ensures), walk_next _ _ _ _ _ _ c.loop-i.invariant.1 _ _ _ c.guess_class.auto.at c.rules_of-m.auto.tos c.rules_of-m.auto.others, omega (arith, c.loop-i-test.true))

pub shape_of-out : goal.shape_of-out
shape_of-out c = put_kept _ _ _ _ _ _ c.loop-i.invariant.0

pub shape_of-at : goal.shape_of-at
shape_of-at c = c.loop-i.invariant.1.at_long

pub shape_of-tos : goal.shape_of-tos
shape_of-tos c = c.loop-i.invariant.1.tos_long

pub shape_of-others : goal.shape_of-others
shape_of-others c = c.loop-i.invariant.1.others_long

pub returns : goal.returns
unfolding rules tables entries columns
returns c = put_ends _ _ _ _ _ _ 0 c.loop-i.i _ c.loop-i.invariant.0 (omega (arith, c.loop-i.invariant.2, c.loop-i-test.false))
