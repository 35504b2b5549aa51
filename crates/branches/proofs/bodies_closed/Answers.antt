use native.Mathlib.Omega.{arith}
use Prim.Native.Nat.{◌-◌}
use mathlib.Core.Path.{◌≡◌, refl, ◌∙◌}
use Rattle.branches.proofs.Walk.{branch_at, bodies_over, bodies_fail, bodies_next, behind_told}
use borrow.Author.Rules.{rules}
use Rattle.branches.proofs.bodies_closed.Goals as goal

pub loop-init : goal.loop-init
loop-init c = let z : c.args.count - 0 ≡ c.args.count = omega arith in rw z (record { run = c.requires.i_lt_states.1; to_come = refl })

pub word-expression-requires : goal.word-expression-requires
word-expression-requires c = omega (arith, (branch_at c.requires.layout_ready.layout _ _ c.loop.invariant.run (search rules)).row_low, c.requires.layout_ready.layout.room)

pub body_closed-requires : goal.body_closed-requires
body_closed-requires c = record { ready = c.requires.layout_ready.ready; i_lt_states = c.requires.i_lt_states.0 }

pub returns-then-not-body_closed : goal.returns-then-not-body_closed
returns-then-not-body_closed c = bodies_fail c.loop.invariant (branch_at c.requires.layout_ready.layout _ _ c.loop.invariant.run (search rules)) _ (c.word-expression.ensures.0 ∙ (branch_at c.requires.layout_ready.layout _ _ c.loop.invariant.run (search rules)).body) _ c.body_closed.ensures c.if-not-body_closed.true

pub word-row-requires : goal.word-row-requires
word-row-requires c = omega (arith, (branch_at c.requires.layout_ready.layout _ _ c.loop.invariant.run (search rules)).body_low, (branch_at c.requires.layout_ready.layout _ _ c.loop.invariant.run (search rules)).body, c.word-expression.ensures.0, c.requires.layout_ready.layout.room)

pub loop-preserved : goal.loop-preserved
loop-preserved c = bodies_next c.loop.invariant (branch_at c.requires.layout_ready.layout _ _ c.loop.invariant.run (search rules)) _ (c.word-expression.ensures.0 ∙ (branch_at c.requires.layout_ready.layout _ _ c.loop.invariant.run (search rules)).body) _ c.body_closed.ensures c.if-not-body_closed.false _ _ (behind_told (branch_at c.requires.layout_ready.layout _ _ c.loop.invariant.run (search rules)) _ _ c.word-expression.ensures.0 c.word-row.ensures.0) (omega arith)

pub returns : goal.returns
returns c = bodies_over c.loop.invariant (search rules)
