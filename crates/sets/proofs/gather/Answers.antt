use Rattle.bits.proofs.Rows.{flipped_turn}
use Rattle.bits.proofs.Words.{any_over}
use Prim.Native.Nat.{◌+◌, ◌*◌}
use mathlib.Core.Path.{sym}
use native.Mathlib.Omega.{arith}
use Rattle.model.proofs.Index.{any_end}
use borrow.Author.Rules.{rules}
use Rattle.sets.proofs.gather.Goals as goal

pub loop-z-init : goal.loop-z-init
loop-z-init c = any_end 0 0 _ (search rules)

pub loop-z-preserved : goal.loop-z-preserved
loop-z-preserved c = let a = c.args in let h = c.loop-z in flipped_turn _ _ _ _ _ _ _ h.found h.invariant (omega (arith, c.type_inv.a (a.n * a.w + h.z)))

pub returns : goal.returns
returns c = sym (any_over _ _ c.loop-z.found _ c.loop-z.invariant (search rules))
