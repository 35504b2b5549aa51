use Prim.Native.Nat.{◌+◌, ◌-◌, ◌<◌}
use native.Mathlib.Omega.{arith}
use mathlib.Core.Path.{◌≡◌, refl, ◌∙◌}
use lib.ListN.{length}
use Rattle.positions.proofs.Standing.{run_prefix, run_pass, row_end}
use Rattle.positions.proofs.branch_row.Goals as goal

pub loop-init : goal.loop-init
loop-init c = let e : c.args.j - 0 ≡ c.args.j = omega arith in rw e (refl, c.requires.run)

pub branch_body-expression-requires : goal.branch_body-expression-requires
branch_body-expression-requires c = record { ends = c.requires.ends; run = run_prefix 1 _ _ (omega arith) c.loop.invariant.1 }

-- what is known where the expression of the branch is
inside : (c : goal.After-branch_body-expression) → c.branch_body-expression.result < length c.args.afters.now
inside c =
    let l = c.loop in
    let p = c.requires.ends in
    let z = run_pass _ _ l.row (c.args.j - l.counter) _ _ p l.invariant.1 (omega (arith, c.loop-test.true)) c.branch_body-expression.ensures refl in
    omega (arith, z.mid_low, p.room)

pub word-row-requires : goal.word-row-requires
word-row-requires c = inside c

pub loop-preserved : goal.loop-preserved
loop-preserved c =
    let l = c.loop in
    let z = run_pass _ _ l.row (c.args.j - l.counter) _ _ c.requires.ends l.invariant.1 (omega (arith, c.loop-test.true)) c.branch_body-expression.ensures c.word-row.ensures.0 in
    let e : c.args.j - l.counter - 1 ≡ c.args.j - (l.counter + 1) = omega arith in
    (l.invariant.0 ∙ rw e at z.onward, rw e at z.run)

pub returns : goal.returns
returns c = let l = c.loop in row_end _ _ l.row (c.args.j - l.counter) (omega (arith, c.loop-test.false)) l.invariant.0
