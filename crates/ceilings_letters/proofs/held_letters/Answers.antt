use Prim.Native.Nat.{◌-◌}
use native.Mathlib.Omega.{arith}
use mathlib.Core.Path.{refl, sym, ◌∙◌, ap}
use mathlib.Core.Bool.{not}
use lib.Dec.{eqb}
use borrow.Author.Tests.{eq-eqb, ne_eqb}
use Rattle.model.proofs.Logic.{true_false}
use Rattle.ceilings.specs.Table.{held}
use Rattle.ceilings.proofs.Cells.{row_in}
use Rattle.ceilings_letters.proofs.Holding.{held_none, held_skip, held_put, held_all}
use Rattle.ceilings_letters.proofs.held_letters.Goals as goal

pub returns-then-not-asked : goal.returns-then-not-asked
returns-then-not-asked c = λ e. true_false e c.if-not-asked.true

pub clear-requires : goal.clear-requires
clear-requires c = c.requires.row

pub loop-x-init : goal.loop-x-init
loop-x-init c = (held_none _ _ (λ z. not (eqb (held c.args.limits.now c.args.s.ceilings c.args.k z) 0)) _ _ c.clear.ensures, refl, omega arith)

pub limit-requires : goal.limit-requires
limit-requires c = record { k_lt_ceilings = c.requires.ceiling; row = row_in _ c.args.n _ _ c.loop-x-test.true c.requires.table }

pub overflow_step-x : goal.overflow_step-x
overflow_step-x c = record { fits = omega (arith, c.loop-x-test.true, c.requires.few) }

pub loop-x-preserved-then-limit-eq0 : goal.loop-x-preserved-then-limit-eq0
loop-x-preserved-then-limit-eq0 c = (held_skip _ _ (λ z. not (eqb (held c.args.limits.now c.args.s.ceilings c.args.k z) 0)) _ _ (ap not (eq-eqb _ 0 (sym c.limit.ensures.value ∙ c.if-limit-eq0.true))) c.loop-x.invariant.0, c.loop-x.invariant.1, omega (arith, c.loop-x.invariant.2))

pub overflow_sub-x : goal.overflow_sub-x
overflow_sub-x c = c.loop-x.invariant.2

pub put-requires : goal.put-requires
put-requires c = record {
  v_bound = omega (arith, c.loop-x-test.true, c.requires.bits, c.loop-x.invariant.2);
  row = record { room = omega (arith, c.requires.row.room, c.loop-x.invariant.1, c.clear.ensures.long) };
}

pub overflow_step-x-in-loop-x : goal.overflow_step-x-in-loop-x
overflow_step-x-in-loop-x c = record { fits = omega (arith, c.loop-x-test.true, c.requires.few) }

pub loop-x-preserved : goal.loop-x-preserved
loop-x-preserved c = (held_put _ _ (λ z. not (eqb (held c.args.limits.now c.args.s.ceilings c.args.k z) 0)) _ _ _ c.loop-x.invariant.2 (ap not (ne_eqb _ 0 (λ e. c.if-limit-eq0.false (c.limit.ensures.value ∙ e)))) c.put.ensures c.loop-x.invariant.0, c.put.ensures.long ∙ c.loop-x.invariant.1, omega (arith, c.loop-x.invariant.2))

pub shape_of-within : goal.shape_of-within
shape_of-within c = c.loop-x.invariant.1 ∙ c.clear.ensures.long

pub returns : goal.returns
returns c = λ e. held_all _ _ (λ z. not (eqb (held c.args.limits.now c.args.s.ceilings c.args.k z) 0)) _ _ _ c.loop-x-test.false c.requires.bits c.loop-x.invariant.0
