use mathlib.Core.Path.{refl, sym, ◌∙◌}
use Rattle.matching_sets.proofs.Filling.{matches_down, one_up, fill_builds, filled_none, filled_skip, filled_joined}
use borrow.Author.Rules.{rules}
use Rattle.matching_sets.proofs.patterns.fill_patterns.Goals as goal

pub loop-q-init : goal.loop-q-init
loop-q-init c = (search rules, filled_none c.requires.unfilled, (refl, refl))

pub tag-kind-requires : goal.tag-kind-requires
tag-kind-requires c = c.requires.fill_ready.ready.whole

pub fill_pattern-requires : goal.fill_pattern-requires
fill_pattern-requires c = record {
  fill_ready = c.requires.fill_ready;
  filled_from = (rw (one_up c.loop-q.q (search rules)) c.loop-q.invariant.1, (sym c.tag-kind.ensures ∙ c.if-kind-eq-TAG_PATTERN_CONSTRUCTOR.true, search rules));
}

pub loop-q-preserved-then-kind-eq-TAG_PATTERN_CONSTRUCTOR : goal.loop-q-preserved-then-kind-eq-TAG_PATTERN_CONSTRUCTOR
loop-q-preserved-then-kind-eq-TAG_PATTERN_CONSTRUCTOR c = (search rules, c.fill_pattern.ensures, (search rules, search rules))

pub fill_equals-requires : goal.fill_equals-requires
fill_equals-requires c =
    let h = c.requires.fill_ready in
    let f = c.loop-q.invariant.1 in
    record {
      build_ready = fill_builds h;
      held_name = record {
        names = h.names;
        row = f.may_room.row _ (search rules);
        clear = rw (one_up c.loop-q.q (search rules)) f.may_clear;
        held = sym c.tag-kind.ensures ∙ c.if-kind-eq-TAG_PATTERN_HELD.true;
        low = search rules;
      };
    }

pub loop-q-preserved-then-kind-eq-TAG_PATTERN_HELD : goal.loop-q-preserved-then-kind-eq-TAG_PATTERN_HELD
loop-q-preserved-then-kind-eq-TAG_PATTERN_HELD c =
    let j = c.fill_equals.ensures in
    let i = c.loop-q.invariant in
    (search rules, filled_joined _ _ _ i.1 (one_up c.loop-q.q (search rules)) c.tag-kind.ensures c.if-kind-eq-TAG_PATTERN_HELD.true j, (j.long ∙ i.2.0, i.2.1))

pub loop-q-preserved : goal.loop-q-preserved
loop-q-preserved c =
    let i = c.loop-q.invariant in
    (search rules, filled_skip _ _ _ i.1 (one_up c.loop-q.q (search rules)) c.tag-kind.ensures c.if-kind-eq-TAG_PATTERN_CONSTRUCTOR.false c.if-kind-eq-TAG_PATTERN_HELD.false, i.2)

pub returns : goal.returns
returns c = matches_down (search rules) c.loop-q.invariant.1.patterns
