use native.Mathlib.Omega.{arith}
use borrow.Author.Rules.{rules}
use Rattle.rules.specs.Listed.{listed_rules}
use Rattle.system_listing.proofs.Putting.{put_begin, put_kept, put_more, put_room, put_ends, rule_room, rule_put}
use Rattle.system_listing.proofs.put_rules.Goals as goal

pub loop-k-init : goal.loop-k-init
loop-k-init c = (put_begin _ _ _ 0 _, omega arith)

pub word-to-requires : goal.word-to-requires
word-to-requires c = omega (arith, c.loop-k-test.true, c.requires.m_in_bounds.0)

pub word-other-requires : goal.word-other-requires
word-other-requires c = omega (arith, c.loop-k-test.true, c.requires.m_in_bounds.1)

pub put_rule-e-requires : goal.put_rule-e-requires
unfolding listed_rules
put_rule-e-requires c = record {
  room = rule_room _ _ _ _ _ _ _ _ c.third_tag-third.ensures c.word-to.ensures.0 c.word-other.ensures.0 _ _ _ (put_room _ _ _ _ _ _ 0 c.loop-k.k c.loop-k.invariant.0 (omega arith) _ c.loop-k-test.true c.requires.room);
  from_bound = (c.requires.i_bound, c.word-to.ensures.1, c.word-other.ensures.1);
}

pub loop-k-preserved : goal.loop-k-preserved
loop-k-preserved c = (put_more _ _ _ _ _ _ 0 c.loop-k.k c.loop-k.invariant.0 (omega arith) _ _ (rule_put _ _ _ _ _ _ _ _ c.third_tag-third.ensures c.word-to.ensures.0 c.word-other.ensures.0 _ _ _ _ _ c.put_rule-e.ensures), search rules)

pub shape_of-out : goal.shape_of-out
shape_of-out c = put_kept _ _ _ _ _ _ c.loop-k.invariant.0

pub returns : goal.returns
unfolding listed_rules
returns c = put_ends _ _ _ _ _ _ 0 c.loop-k.k _ c.loop-k.invariant.0 (omega (arith, c.loop-k.invariant.1))
