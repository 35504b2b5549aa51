use mathlib.Core.Bool.{not}
use mathlib.Core.Path.{ap}
use Prim.Native.Nat.{◌-◌}
use native.Mathlib.Omega.{arith}
use mathlib.Core.Path.{◌≡◌}
use Rattle.model.specs.Rows.{send}
use Rattle.rules.proofs.Adding.{added_none, added_same, added_kept, added_one}
use Rattle.bits.specs.Bits.{member}
use Rattle.class_rules.specs.Asked.{class_turn}
use Rattle.class_rules.proofs.Asking.{letter_skipped, letter_kept, PutRoom, put_room}
use borrow.Author.Rules.{rules}
use Rattle.class_rules.proofs.letter_rules.Goals as goal

pub word-from-requires : goal.word-from-requires
word-from-requires c = omega (arith, c.requires.starts)

pub overflow_add-d : goal.overflow_add-d
overflow_add-d c = record { fits = omega (arith, c.requires.class) }

pub word-to-requires : goal.word-to-requires
word-to-requires c = omega (arith, c.requires.starts)

pub loop-y-init : goal.loop-y-init
loop-y-init c = (λ k. added_none k _ _ _ _ _ (omega (arith, c.requires.tos_room, c.requires.order)), omega arith, omega (arith, c.requires.order, c.word-from.ensures.0, c.word-to.ensures.0), omega arith)

pub holds-requires : goal.holds-requires
holds-requires c = record { v_bound = omega (arith, c.requires.inside, c.word-to.ensures.0, c.loop-y-test.true); row = c.requires.row }

pub overflow_step-y : goal.overflow_step-y
overflow_step-y c = record { fits = omega (arith, c.requires.counters, c.word-to.ensures.0, c.loop-y-test.true) }

pub loop-y-preserved-then-not-holds : goal.loop-y-preserved-then-not-holds
loop-y-preserved-then-not-holds c = (λ k. added_kept k _ _ _ _ _ _ _ _ _ (c.loop-y.invariant.0 k) c.loop-y.invariant.1 (λ i. letter_skipped _ (member c.args.found.now c.args.words 0) _ _ i _ _ c.holds.ensures (ap not c.if-not-holds.true)), search rules, search rules, search rules)

pub overflow_add-x : goal.overflow_add-x
overflow_add-x c =
    let here-here : PutRoom c.args.s.states c.loop-y.y c.loop-y.e c.loop-y.tos c.loop-y.others = put_room c.requires _ _ _ _ _ _ c.word-from.ensures.0 c.word-to.ensures.0 c.loop-y.invariant.1 c.loop-y-test.true c.loop-y.invariant.3 (c.loop-y.invariant.0 send).tos_long (c.loop-y.invariant.0 send).others_long in record { fits = omega (arith, here-here.counter) }

pub offset_bounds-tos-e : goal.offset_bounds-tos-e
offset_bounds-tos-e c =
    let here-here : PutRoom c.args.s.states c.loop-y.y c.loop-y.e c.loop-y.tos c.loop-y.others = put_room c.requires _ _ _ _ _ _ c.word-from.ensures.0 c.word-to.ensures.0 c.loop-y.invariant.1 c.loop-y-test.true c.loop-y.invariant.3 (c.loop-y.invariant.0 send).tos_long (c.loop-y.invariant.0 send).others_long in record { fits = omega (arith, here-here.low) }

pub bounds-tos-e : goal.bounds-tos-e
bounds-tos-e c =
    let here-here : PutRoom c.args.s.states c.loop-y.y c.loop-y.e c.loop-y.tos c.loop-y.others = put_room c.requires _ _ _ _ _ _ c.word-from.ensures.0 c.word-to.ensures.0 c.loop-y.invariant.1 c.loop-y-test.true c.loop-y.invariant.3 (c.loop-y.invariant.0 send).tos_long (c.loop-y.invariant.0 send).others_long in here-here.tos_room

pub overflow_cast-others : goal.overflow_cast-others
overflow_cast-others c =
    let here-here : PutRoom c.args.s.states c.loop-y.y c.loop-y.e c.loop-y.tos c.loop-y.others = put_room c.requires _ _ _ _ _ _ c.word-from.ensures.0 c.word-to.ensures.0 c.loop-y.invariant.1 c.loop-y-test.true c.loop-y.invariant.3 (c.loop-y.invariant.0 send).tos_long (c.loop-y.invariant.0 send).others_long in omega (arith, here-here.counter)

pub offset_bounds-others-e : goal.offset_bounds-others-e
offset_bounds-others-e c =
    let here-here : PutRoom c.args.s.states c.loop-y.y c.loop-y.e c.loop-y.tos c.loop-y.others = put_room c.requires _ _ _ _ _ _ c.word-from.ensures.0 c.word-to.ensures.0 c.loop-y.invariant.1 c.loop-y-test.true c.loop-y.invariant.3 (c.loop-y.invariant.0 send).tos_long (c.loop-y.invariant.0 send).others_long in record { fits = omega (arith, here-here.low) }

pub bounds-others-e : goal.bounds-others-e
bounds-others-e c =
    let here-here : PutRoom c.args.s.states c.loop-y.y c.loop-y.e c.loop-y.tos c.loop-y.others = put_room c.requires _ _ _ _ _ _ c.word-from.ensures.0 c.word-to.ensures.0 c.loop-y.invariant.1 c.loop-y-test.true c.loop-y.invariant.3 (c.loop-y.invariant.0 send).tos_long (c.loop-y.invariant.0 send).others_long in here-here.others_room

pub overflow_add-e : goal.overflow_add-e
overflow_add-e c =
    let here-here : PutRoom c.args.s.states c.loop-y.y c.loop-y.e c.loop-y.tos c.loop-y.others = put_room c.requires _ _ _ _ _ _ c.word-from.ensures.0 c.word-to.ensures.0 c.loop-y.invariant.1 c.loop-y-test.true c.loop-y.invariant.3 (c.loop-y.invariant.0 send).tos_long (c.loop-y.invariant.0 send).others_long in record { fits = omega (arith, here-here.low) }

pub overflow_step-y-in-loop-y : goal.overflow_step-y-in-loop-y
overflow_step-y-in-loop-y c =
    let here-here : PutRoom c.args.s.states c.loop-y.y c.loop-y.e c.loop-y.tos c.loop-y.others = put_room c.requires _ _ _ _ _ _ c.word-from.ensures.0 c.word-to.ensures.0 c.loop-y.invariant.1 c.loop-y-test.true c.loop-y.invariant.3 (c.loop-y.invariant.0 send).tos_long (c.loop-y.invariant.0 send).others_long in record { fits = omega (arith, here-here.counter) }

pub loop-y-preserved : goal.loop-y-preserved
loop-y-preserved c =
    let here-here : PutRoom c.args.s.states c.loop-y.y c.loop-y.e c.loop-y.tos c.loop-y.others = put_room c.requires _ _ _ _ _ _ c.word-from.ensures.0 c.word-to.ensures.0 c.loop-y.invariant.1 c.loop-y-test.true c.loop-y.invariant.3 (c.loop-y.invariant.0 send).tos_long (c.loop-y.invariant.0 send).others_long in (λ k. added_one k _ _ _ _ _ _ _ _ _ (c.loop-y.invariant.0 k) c.loop-y.invariant.1 _ _ here-here.tos_room here-here.others_room (λ i. letter_kept _ (member c.args.found.now c.args.words 0) _ _ i _ _ _ c.holds.ensures (ap not c.if-not-holds.false) (search rules)), search rules, search rules, search rules)

pub shape_of-tos : goal.shape_of-tos
shape_of-tos c = (c.loop-y.invariant.0 send).tos_long

pub shape_of-others : goal.shape_of-others
shape_of-others c = (c.loop-y.invariant.0 send).others_long

pub returns : goal.returns
unfolding class_turn
returns c =
    let e : c.loop-y.y ≡ c.word-to.result = omega (arith, c.loop-y.invariant.2, c.loop-y-test.false) in
    record {
      added = λ k. added_same k _ _ _ _ _ _ _ _ (c.loop-y.invariant.0 k) (λ i. rw (e, c.word-from.ensures.0, c.word-to.ensures.0));
      d_bound = omega (arith, c.loop-y.invariant.3, c.word-from.ensures.0, c.word-to.ensures.0);
    }
