use Prim.Native.Nat.{◌+◌, ◌-◌, ◌*◌}
use native.Mathlib.Omega.{arith}
use Rattle.bits.proofs.Bits.{bit_zero}
use Rattle.bits.proofs.Rows.{filled_part, filled_over}
use borrow.Author.Rules.{rules}
use Rattle.sets.proofs.clear.Goals as goal

pub returns : goal.returns
returns c =
    let p = c.args.n * c.args.w in
    filled_over _ _ _ _ _ _ _ (filled_part c.args.t.now _ p (p + c.args.w - p) 0 (omega (arith, c.requires.room)) (c.fill.ensures.after (λ y h. search rules)))
    (omega arith) (λ z k _ _. bit_zero k)
