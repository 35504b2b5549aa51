use native.Mathlib.Omega.{arith}
use mathlib.Core.Path.{refl, sym, ◌∙◌}
use borrow.Author.Rules.{rules}
use Rattle.model.specs.Words.{columns}
use Rattle.model.specs.Rows.{program}
use Rattle.std.proofs.lemmas.List.{length-take-le}
use Rattle.matching.proofs.Chains.{chained_begin, chained_skip, chained_link, made_low}
use Rattle.matching.proofs.builds.fill_builds.Goals as goal

pub loop-r-init : goal.loop-r-init
unfolding program columns
loop-r-init c =
    let long = length-take-le _ _ c.requires.constructors_in_bounds in
    chained_begin _ _ _ _ _ _ (c.fill.ensures.after (λ y e. e)) refl (omega (arith, long)) c.requires.rows_in_bounds

pub offset_bounds-firsts-made : goal.offset_bounds-firsts-made
unfolding program
offset_bounds-firsts-made c = omega (arith, made_low c.requires.ready _ _ _ c.tag.ensures c.if-tag-eq-TAG_BUILD.true c.num-made.ensures, c.requires.ready.whole.constructors)

pub bounds-firsts-made : goal.bounds-firsts-made
unfolding program
bounds-firsts-made c = omega (arith, made_low c.requires.ready _ _ _ c.tag.ensures c.if-tag-eq-TAG_BUILD.true c.num-made.ensures, c.loop-r.invariant.first_room)

pub offset_bounds-firsts-made-then-tag-eq-TAG_BUILD : goal.offset_bounds-firsts-made-then-tag-eq-TAG_BUILD
unfolding program
offset_bounds-firsts-made-then-tag-eq-TAG_BUILD c = omega (arith, made_low c.requires.ready _ _ _ c.tag.ensures c.if-tag-eq-TAG_BUILD.true c.num-made.ensures, c.requires.ready.whole.constructors)

pub bounds-firsts-made-then-tag-eq-TAG_BUILD : goal.bounds-firsts-made-then-tag-eq-TAG_BUILD
unfolding program
bounds-firsts-made-then-tag-eq-TAG_BUILD c = omega (arith, made_low c.requires.ready _ _ _ c.tag.ensures c.if-tag-eq-TAG_BUILD.true c.num-made.ensures, c.loop-r.invariant.first_room)

pub loop-r-preserved-then-tag-eq-TAG_BUILD : goal.loop-r-preserved-then-tag-eq-TAG_BUILD
loop-r-preserved-then-tag-eq-TAG_BUILD c = chained_link _ _ _ _ _ (search rules) c.loop-r.invariant _ _ _ (sym c.tag.ensures ∙ c.if-tag-eq-TAG_BUILD.true) c.num-made.ensures (made_low c.requires.ready _ _ _ c.tag.ensures c.if-tag-eq-TAG_BUILD.true c.num-made.ensures) refl refl

pub loop-r-preserved : goal.loop-r-preserved
loop-r-preserved c = chained_skip _ _ _ _ _ (search rules) c.loop-r.invariant _ c.tag.ensures c.if-tag-eq-TAG_BUILD.false
