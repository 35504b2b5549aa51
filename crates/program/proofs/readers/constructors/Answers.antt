use Prim.Native.Nat.{◌-◌, ◌+◌}
use native.Mathlib.Omega.{arith}
use mathlib.Core.Path.{◌≡◌, ◌∙◌, ap}
use Rattle.model.specs.Reader.{past}
use Rattle.program.proofs.Items.{constructor_says}
use Rattle.program.proofs.Reading.{past_answer, wrong_answer, replicate_none, rows_turn, rows_halt}
use Rattle.program.proofs.readers.constructors.Goals as goal

pub returns-then-not-is_small_row : goal.returns-then-not-is_small_row
returns-then-not-is_small_row c =
    let l = c.loop-r in
    wrong_answer _
    (l.invariant.1 ∙ rows_halt _ _ _ _ l.r (omega arith) (constructor_says _ _ _ _) c.is_small_row.ensures c.if-not-is_small_row.true)

pub loop-r-preserved : goal.loop-r-preserved
loop-r-preserved c =
    let l = c.loop-r in
    let a = c.args in
    let turned = rows_turn _ _ _ (a.s.constructors - l.r) (a.s.constructors - (l.r + 1)) l.r (omega arith) (constructor_says _ _ _ _) c.is_small_row.ensures c.if-not-is_small_row.false in
    (omega (arith, turned.0), l.invariant.1 ∙ turned.1)

pub returns : goal.returns
returns c =
    let l = c.loop-r in
    let all : l.r ≡ c.args.s.constructors = omega arith in
    past_answer _ (l.invariant.1 ∙ (replicate_none _ _ _ l.r (omega arith) ∙ ap past all))
