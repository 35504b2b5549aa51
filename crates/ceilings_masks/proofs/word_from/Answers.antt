use Prim.Native.Nat.{◌-◌}
use native.Mathlib.Omega.{arith}
use borrow.Author.Rules.{rules}
use Rattle.ceilings_masks.proofs.Comparing.{word_start, word_hit, word_miss, reaches_in, reaches_low, word_over}
use Rattle.ceilings_masks.proofs.word_from.Goals as goal
use Rattle.ceilings_masks.proofs.word_from.Goals.{then-limit-least, else-limit-least}

pub loop-j-init : goal.loop-j-init
loop-j-init c = (word_start _, search rules)

pub overflow_add-k : goal.overflow_add-k
overflow_add-k c = search rules

pub limit-requires : goal.limit-requires
limit-requires c = let h = c.in_word-end.ensures.by_index c.loop-j.j (search rules) in search rules

pub overflow_shl-w : goal.overflow_shl-w
overflow_shl-w c = search rules

pub overflow_step-j : goal.overflow_step-j
overflow_step-j c = search rules

pub loop-j-preserved : goal.loop-j-preserved
loop-j-preserved c =
    let b = c.loop-j in
    elim c.if-limit-least.branch [
      | then-limit-least w ↦ (rw w.w-is (word_hit _ _ _ b.invariant.0 (omega (arith, c.in_word-end.ensures.upper_bound, c.loop-j-test.true)) (reaches_in _ _ _ _ _ _ (c.in_word-end.ensures.by_index b.j c.loop-j-test.true) c.limit.ensures.value w.if-limit-least.true)), search rules)
      | else-limit-least w ↦ (rw w.w-is (word_miss _ _ _ b.invariant.0 (reaches_low _ _ _ _ _ _ c.limit.ensures.value w.if-limit-least.false)), search rules)
    ]

pub returns : goal.returns
returns c = word_over _ _ _ _ _ _ _ c.loop-j.invariant.0 (λ j l h. c.in_word-end.ensures.by_index_2 j (omega (arith, l, c.loop-j-test.false, c.loop-j.invariant.1)) h)
