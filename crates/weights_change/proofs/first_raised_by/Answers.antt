use Prim.Native.Nat.{◌-◌}
use native.Mathlib.Omega.{arith}
use borrow.Author.Rules.{rules}
use Rattle.weights_change.proofs.Raised.{so_far_start, so_far_next, so_far_end}
use Rattle.weights_change.proofs.first_raised_by.Goals as goal

pub loop-j-init : goal.loop-j-init
loop-j-init c = so_far_start _ _ _ _ _ _ _

pub word-requires : goal.word-requires
word-requires c = omega (arith, c.loop-j-test.true, c.requires.m_in_bounds.0)

pub word-requires-in-loop-j : goal.word-requires-in-loop-j
word-requires-in-loop-j c = omega (arith, c.loop-j-test.true, c.requires.m_in_bounds.1)

pub first_raised-least-requires : goal.first_raised-least-requires
first_raised-least-requires c = record { upto_le_lines = (omega (arith, c.loop-j.invariant.1, c.requires.upto_le_lines.0), c.requires.upto_le_lines.1); kind_bound = c.requires.kind_bound }

pub overflow_step-j : goal.overflow_step-j
overflow_step-j c = let h = c.loop-j-test.true in search rules

pub loop-j-smaller : goal.loop-j-smaller
loop-j-smaller c = omega (arith, c.loop-j-test.true)

pub loop-j-preserved : goal.loop-j-preserved
loop-j-preserved c =
    let h = c.loop-j in
    so_far_next _ _ _ _ _ _ _ h.j h.least h.invariant c.loop-j-test.true _ _ c.word.ensures.0 c.word-in-loop-j.ensures.0 _ c.first_raised-least.ensures.value c.first_raised-least.ensures.upper_bound

pub returns : goal.returns
returns c =
    let h = c.loop-j in record { value = so_far_end _ _ _ _ _ _ _ h.j h.least h.invariant c.loop-j-test.false; upper_bound = h.invariant.1 }
