use native.Mathlib.Omega.{arith}
use mathlib.Core.Path.{refl}
use Rattle.model.proofs.Logic.{true_false}
use Rattle.value_letters.proofs.Values.{argument_row, lacking, headed_next, headed_all}
use Rattle.value_letters.proofs.lacks_head.Goals as goal

pub loop-i-init : goal.loop-i-init
loop-i-init c = λ k l. absurd (omega arith)

pub overflow_add-v-in-loop-i : goal.overflow_add-v-in-loop-i
overflow_add-v-in-loop-i c = record { fits = omega (arith, c.requires.value_of.arguments.few, c.requires.value_of.low) }

pub meets-requires : goal.meets-requires
meets-requires c = let r = argument_row c.requires.heads_known c.requires.value_of.arguments _ _ c.num-argument.ensures (omega arith) in (r, r)

pub returns-then-not-meets : goal.returns-then-not-meets
returns-then-not-meets c = record {
  lacking = λ z. lacking _ _ _ _ _ _ c.num-argument.ensures (omega arith) c.meets.ensures c.if-not-meets.true;
  not_lacking = λ z. true_false refl z;
}

pub loop-i-preserved : goal.loop-i-preserved
loop-i-preserved c = headed_next _ _ _ _ _ c.num-argument.ensures c.meets.ensures c.if-not-meets.false c.loop-i.invariant

pub returns : goal.returns
returns c = record {
  lacking = λ z. true_false z refl;
  not_lacking = λ z. headed_all _ _ _ _ _ (omega arith) c.loop-i.invariant;
}
