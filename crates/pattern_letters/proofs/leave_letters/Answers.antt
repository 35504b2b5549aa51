use Prim.Native.Nat.{◌-◌}
use native.Mathlib.Omega.{arith}
use mathlib.Core.Path.{sym, ◌∙◌}
use Rattle.pattern_letters.proofs.Arguments.{row_small, first_row, argument_at, argument_name, arity_short, value_low}
use Rattle.sent_letters.proofs.Found.{wide_row}
use Rattle.pattern_letters.proofs.Lessening.{left_first, left_next, left_over, left_whole}
use borrow.Author.Rules.{rules}
use Rattle.pattern_letters.proofs.leave_letters.Goals as goal

pub tag-requires : goal.tag-requires
tag-requires c = c.requires.leaving_tables.match_tables.ready.whole

pub returns-then-tag-ne-TAG_PATTERN_CONSTRUCTOR : goal.returns-then-tag-ne-TAG_PATTERN_CONSTRUCTOR
returns-then-tag-ne-TAG_PATTERN_CONSTRUCTOR c = left_whole _ _ _ _ _ _ c.requires.leaving_tables.wide c.requires.pattern.2 (λ z. c.if-tag-ne-TAG_PATTERN_CONSTRUCTOR.true (c.tag.ensures ∙ z))

pub num-made-requires : goal.num-made-requires
num-made-requires c = c.requires.leaving_tables.match_tables.ready.whole

pub num-arity-requires : goal.num-arity-requires
num-arity-requires c = c.requires.leaving_tables.match_tables.ready.whole

pub overflow_add-sub : goal.overflow_add-sub
overflow_add-sub c = omega (arith, row_small c.requires.leaving_tables.match_tables.ready c.requires.pattern.0)

pub loop-i-init : goal.loop-i-init
loop-i-init c = (search rules, first_row _ _ _ (search rules), left_first _ _ _ _ _ _ c.requires.leaving_tables.wide c.requires.pattern.2)

pub overflow_add-v : goal.overflow_add-v
overflow_add-v c = omega (arith, value_low c.requires.leaving_tables.match_tables.ready c.requires.ends _ c.requires.pattern.0 c.requires.pattern.1 (sym c.tag.ensures ∙ c.if-tag-ne-TAG_PATTERN_CONSTRUCTOR.false) c.num-made.ensures c.num-arity.ensures)

pub overflow_add-v-in-loop-i : goal.overflow_add-v-in-loop-i
overflow_add-v-in-loop-i c = omega (arith, value_low c.requires.leaving_tables.match_tables.ready c.requires.ends _ c.requires.pattern.0 c.requires.pattern.1 (sym c.tag.ensures ∙ c.if-tag-ne-TAG_PATTERN_CONSTRUCTOR.false) c.num-made.ensures c.num-arity.ensures, arity_short c.requires.leaving_tables.match_tables.ready c.requires.ends _ c.requires.pattern.0 c.requires.pattern.1 (sym c.tag.ensures ∙ c.if-tag-ne-TAG_PATTERN_CONSTRUCTOR.false) c.num-made.ensures c.num-arity.ensures)

pub num-name-requires : goal.num-name-requires
num-name-requires c = c.requires.leaving_tables.match_tables.ready.whole

pub leave_argument-requires : goal.leave_argument-requires
leave_argument-requires c =
    let a = (argument_at c.requires.leaving_tables.match_tables.ready c.requires.ends _ c.requires.pattern.0 c.requires.pattern.1 (sym c.tag.ensures ∙ c.if-tag-ne-TAG_PATTERN_CONSTRUCTOR.false) c.num-made.ensures c.num-arity.ensures (search rules) c.loop-i.invariant.1) in
    record {
      leaving_tables = c.requires.leaving_tables;
      i_lt_max_arity = (a.short, (argument_name c.requires.leaving_tables.match_tables.ready c.requires.ends _ c.requires.pattern.0 c.requires.pattern.1 (sym c.tag.ensures ∙ c.if-tag-ne-TAG_PATTERN_CONSTRUCTOR.false) c.num-made.ensures c.num-arity.ensures (search rules) c.loop-i.invariant.1 _ _ (search rules) c.num-name.ensures).1);
      pattern = (a.stands, wide_row _ _ _ c.requires.leaving_tables.wide c.loop-i.invariant.2.row);
    }

pub word-sub-requires : goal.word-sub-requires
word-sub-requires c = (argument_at c.requires.leaving_tables.match_tables.ready c.requires.ends _ c.requires.pattern.0 c.requires.pattern.1 (sym c.tag.ensures ∙ c.if-tag-ne-TAG_PATTERN_CONSTRUCTOR.false) c.num-made.ensures c.num-arity.ensures (search rules) c.loop-i.invariant.1).inside

pub overflow_step-i : goal.overflow_step-i
overflow_step-i c = omega (arith, arity_short c.requires.leaving_tables.match_tables.ready c.requires.ends _ c.requires.pattern.0 c.requires.pattern.1 (sym c.tag.ensures ∙ c.if-tag-ne-TAG_PATTERN_CONSTRUCTOR.false) c.num-made.ensures c.num-arity.ensures)

pub loop-i-preserved : goal.loop-i-preserved
loop-i-preserved c = (search rules, c.word-sub.ensures.0 ∙ (argument_at c.requires.leaving_tables.match_tables.ready c.requires.ends _ c.requires.pattern.0 c.requires.pattern.1 (sym c.tag.ensures ∙ c.if-tag-ne-TAG_PATTERN_CONSTRUCTOR.false) c.num-made.ensures c.num-arity.ensures (search rules) c.loop-i.invariant.1).next, left_next _ _ _ _ _ _ _ _ _ _ (argument_name c.requires.leaving_tables.match_tables.ready c.requires.ends _ c.requires.pattern.0 c.requires.pattern.1 (sym c.tag.ensures ∙ c.if-tag-ne-TAG_PATTERN_CONSTRUCTOR.false) c.num-made.ensures c.num-arity.ensures (search rules) c.loop-i.invariant.1 _ _ (search rules) c.num-name.ensures).0 c.loop-i.invariant.1 c.loop-i.invariant.2 c.leave_argument.ensures)

pub shape_of-part : goal.shape_of-part
shape_of-part c = c.loop-i.invariant.2.long

pub returns : goal.returns
returns c = left_over _ _ _ _ _ _ _ _ _ c.num-made.ensures c.num-arity.ensures (search rules) (sym c.tag.ensures ∙ c.if-tag-ne-TAG_PATTERN_CONSTRUCTOR.false) c.loop-i.invariant.2
