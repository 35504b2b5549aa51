use Prim.Native.Nat.{◌-◌}
use native.Mathlib.Omega.{arith}
use mathlib.Core.Path.{refl, sym, ◌∙◌}
use Rattle.model.proofs.Index.{any_end, any_hit, any_miss}
use Rattle.class_rules.proofs.has_letter.Goals as goal

pub word-from-requires : goal.word-from-requires
word-from-requires c = omega (arith, c.requires.d_in_bounds)

pub overflow_add-d : goal.overflow_add-d
overflow_add-d c = record { fits = omega (arith, c.requires.d_in_bounds, c.well_formed) }

pub word-to-requires : goal.word-to-requires
word-to-requires c = omega (arith, c.requires.d_in_bounds)

pub loop-y-init : goal.loop-y-init
loop-y-init c = (refl, omega arith)

pub holds-requires : goal.holds-requires
holds-requires c = record { v_bound = omega (arith, c.loop-y-test.true, c.word-to.ensures.0, c.requires.d_bound); row = c.requires.row }

pub returns-then-holds : goal.returns-then-holds
returns-then-holds c = rw (← c.word-from.ensures.0, ← c.word-to.ensures.0) (sym (c.loop-y.invariant.0 ∙ any_hit _ _ _ c.loop-y-test.true (sym c.holds.ensures ∙ c.if-holds.true)))

pub loop-y-preserved : goal.loop-y-preserved
loop-y-preserved c = (c.loop-y.invariant.0 ∙ any_miss _ _ _ c.loop-y-test.true (sym c.holds.ensures ∙ c.if-holds.false), omega (arith, c.loop-y.invariant.1))

pub returns : goal.returns
returns c = rw (← c.word-from.ensures.0, ← c.word-to.ensures.0) (sym (c.loop-y.invariant.0 ∙ any_end _ _ _ (omega (arith, c.loop-y-test.false))))
