use native.Mathlib.Omega.{arith}
use Prim.Native.Nat.{◌-◌}
use mathlib.Core.Path.{◌≡◌, refl}
use Rattle.matching.proofs.Arguments.{match_flow}
use Rattle.branches.proofs.Walk.{branch_at, taking_begin, taking_over, taking_lacks, taking_next, weight_low, code_weight, behind_told}
use borrow.Author.Rules.{rules}
use Rattle.branches.proofs.taken_bits.Goals as goal

pub loop-init : goal.loop-init
loop-init c = let z : c.args.count - 0 ≡ c.args.count = omega arith in rw z (taking_begin _ c.requires.branches_asked.run c.requires.branches_asked.few)

pub values_code-code-requires : goal.values_code-code-requires
values_code-code-requires c = record {
  flow_ready = match_flow c.requires.cases;
  pattern_asked = (record { row = c.requires.branches_asked.row; stands = record { depth = _; stands = (branch_at c.requires.cases.layout _ _ c.loop.invariant.run (search rules)).pattern } }, c.requires.cases.patterns.at _ (search rules) (branch_at c.requires.cases.layout _ _ c.loop.invariant.run (search rules)).row_low);
}

pub returns-then-code-ge2 : goal.returns-then-code-ge2
returns-then-code-ge2 c = taking_lacks c.loop.invariant (branch_at c.requires.cases.layout _ _ c.loop.invariant.run (search rules)) (search rules) _ c.values_code-code.ensures (search rules)

pub overflow_mul-bits : goal.overflow_mul-bits
overflow_mul-bits c = omega (arith, weight_low c.loop.invariant (search rules), (code_weight c.loop.invariant c.values_code-code.result c.if-code-ge2.false (search rules)).0)

pub overflow_add-bits : goal.overflow_add-bits
overflow_add-bits c = omega (arith, weight_low c.loop.invariant (search rules), (code_weight c.loop.invariant c.values_code-code.result c.if-code-ge2.false (search rules)).1)

pub overflow_mul-weight : goal.overflow_mul-weight
overflow_mul-weight c = omega (arith, weight_low c.loop.invariant (search rules))

pub word-expression-requires : goal.word-expression-requires
word-expression-requires c = omega (arith, (branch_at c.requires.cases.layout _ _ c.loop.invariant.run (search rules)).row_low, c.requires.cases.layout.room)

pub word-row-requires : goal.word-row-requires
word-row-requires c = omega (arith, (branch_at c.requires.cases.layout _ _ c.loop.invariant.run (search rules)).body_low, (branch_at c.requires.cases.layout _ _ c.loop.invariant.run (search rules)).body, c.word-expression.ensures.0, c.requires.cases.layout.room)

pub loop-preserved : goal.loop-preserved
loop-preserved c = taking_next c.loop.invariant (branch_at c.requires.cases.layout _ _ c.loop.invariant.run (search rules)) (search rules) _ c.values_code-code.ensures (search rules) _ _ _ refl (behind_told (branch_at c.requires.cases.layout _ _ c.loop.invariant.run (search rules)) _ _ c.word-expression.ensures.0 c.word-row.ensures.0) (omega arith)

pub returns : goal.returns
returns c = taking_over c.loop.invariant (search rules)
