use native.Mathlib.Omega.{arith}
use Rattle.model.specs.Words.{columns}
use Rattle.model.specs.Rows.{program}
use Rattle.matching.proofs.Subpatterns.{pattern_within}
use Rattle.matching.proofs.Arguments.{arguments_begin, arguments_end, argument_here, arguments_none, arguments_next, built_row, count_low}
use borrow.Author.Rules.{rules}
use Rattle.matching.proofs.codes.arguments_code.Goals as goal

pub overflow_add-sub : goal.overflow_add-sub
unfolding program columns
overflow_add-sub c = omega (arith, pattern_within c.requires.same_made.stands.stands, c.requires.cases.ready.limits.rows)

pub loop-i-init : goal.loop-i-init
loop-i-init c = arguments_begin _ _ c.num-made.ensures c.num-arity.ensures c.requires.same_made.made c.requires.same_made.same c.requires.same_made.stands

pub overflow_add-v : goal.overflow_add-v
overflow_add-v c = omega (arith, (built_row c.requires.cases.ready _ _ c.requires.same_made.same).2)

pub overflow_add-v-in-loop-i : goal.overflow_add-v-in-loop-i
overflow_add-v-in-loop-i c = omega (arith, (built_row c.requires.cases.ready _ _ c.requires.same_made.same).2, count_low c.requires.cases.ready c.loop-i.invariant)

pub values_code-code-requires-clause-pattern_asked : goal.values_code-code-requires-clause-pattern_asked
unfolding program columns
values_code-code-requires-clause-pattern_asked c =
    let h = argument_here c.requires.cases c.loop-i.invariant (search rules) _ c.num-name.ensures in
    (record { row = h.values.row; stands = h.stands }, h.matched)

pub returns-then-code-eq0 : goal.returns-then-code-eq0
returns-then-code-eq0 c = arguments_none c.requires.cases c.loop-i.invariant (search rules) _ c.num-name.ensures _ c.values_code-code.ensures c.if-code-eq0.true

pub word-sub-requires : goal.word-sub-requires
word-sub-requires c = (argument_here c.requires.cases c.loop-i.invariant (search rules) _ c.num-name.ensures).inside

pub loop-i-preserved : goal.loop-i-preserved
loop-i-preserved c = arguments_next c.requires.cases c.loop-i.invariant (search rules) _ c.num-name.ensures _ c.values_code-code.ensures c.if-code-eq0.false _ _ c.worse-worst.ensures c.word-sub.ensures.0

pub returns : goal.returns
returns c = arguments_end (search rules) c.loop-i.invariant
