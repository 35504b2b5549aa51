use Prim.Native.Nat.{◌-◌}
use native.Mathlib.Omega.{arith}
use mathlib.Core.Path.{refl, ◌∙◌}
use borrow.Author.Rules.{rules}
use Rattle.ceilings.proofs.Cells.{row_in}
use Rattle.ceilings_masks.proofs.Comparing.{holders_none, holders_next, holders_all}
use Rattle.ceilings_masks.proofs.fill_holders.Goals as goal

pub loop-x-init : goal.loop-x-init
loop-x-init c = (holders_none _ _ _ c.requires.ceilings_le_max_ceilings.0, refl, search rules)

pub limits_from-one-requires : goal.limits_from-one-requires
limits_from-one-requires c = record { ceilings_le_max_ceilings = search rules; row = row_in _ c.args.n _ _ c.loop-x-test.true (search rules) }

pub limits_from-two-requires : goal.limits_from-two-requires
limits_from-two-requires c = record { ceilings_le_max_ceilings = search rules; row = row_in _ c.args.n _ _ c.loop-x-test.true (search rules) }

pub limits_from-all-requires : goal.limits_from-all-requires
limits_from-all-requires c = record { ceilings_le_max_ceilings = search rules; row = row_in _ c.args.n _ _ c.loop-x-test.true (search rules) }

pub store_three-requires : goal.store_three-requires
store_three-requires c = omega (arith, c.loop-x-test.true, c.loop-x.invariant.1, c.requires.n_in_bounds)

pub loop-x-preserved : goal.loop-x-preserved
loop-x-preserved c =
    (holders_next _ _ _ _ _ _ _ _ c.loop-x.invariant.0 (row_in _ c.args.n _ _ c.loop-x-test.true (search rules)) c.store_three.ensures (omega (arith, c.loop-x-test.true, c.loop-x.invariant.1, c.requires.n_in_bounds)) c.limits_from-one.ensures c.limits_from-two.ensures c.limits_from-all.ensures, c.store_three.ensures.long ∙ c.loop-x.invariant.1, search rules)

pub returns : goal.returns
returns c = holders_all _ _ _ _ _ (omega (arith, c.loop-x.invariant.2, c.loop-x-test.false)) c.loop-x.invariant.0
