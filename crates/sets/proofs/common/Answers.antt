use Rattle.bits.proofs.Common.{shared_turn, shared_held_turn, code_0, code_1, code_2}
use Prim.Native.Nat.{◌+◌, ◌*◌, zero-le}
use native.Mathlib.Omega.{arith}
use mathlib.Core.Path.{refl}
use Rattle.model.proofs.Index.{any_end}
use borrow.Author.Rules.{rules}
use Rattle.sets.proofs.common.Goals as goal

pub loop-z-init : goal.loop-z-init
loop-z-init c = (any_end 0 0 _ zero-le, any_end 0 0 _ zero-le)

pub loop-z-preserved : goal.loop-z-preserved
loop-z-preserved c = let a = c.args in let h = c.loop-z in
    let l = c.type_inv.a (a.n * a.w + h.z) in
    (shared_turn _ _ a.held.now _ _ _ h.z (omega arith) h.some h.invariant.0, shared_held_turn _ _ _ _ _ _ _ (omega arith) h.lack _ refl h.invariant.1)

pub returns-then-some-eq0 : goal.returns-then-some-eq0
returns-then-some-eq0 c = let h = c.loop-z in code_0 _ _ _ _ _ _ h.z h.some h.lack h.invariant.0 h.invariant.1 (search rules) c.if-some-eq0.true

pub returns-then-lack-eq0 : goal.returns-then-lack-eq0
returns-then-lack-eq0 c = let h = c.loop-z in code_1 _ _ _ _ _ _ h.z h.some h.lack h.invariant.0 h.invariant.1 (search rules) c.if-some-eq0.false c.if-lack-eq0.true

pub returns-else-lack-eq0 : goal.returns-else-lack-eq0
returns-else-lack-eq0 c = let h = c.loop-z in code_2 _ _ _ _ _ _ h.z h.some h.lack h.invariant.0 h.invariant.1 (search rules) c.if-some-eq0.false c.if-lack-eq0.false
