use mathlib.Core.Path.{sym}
use Rattle.masks.proofs.Masks.{bit_in_hit, bit_in_miss}
use Rattle.masks.proofs.bit_in.Goals as goal

pub returns-then-k-i : goal.returns-then-k-i
returns-then-k-i c = sym (bit_in_hit _ _ c.if-k-i.true)

pub returns-else-k-i : goal.returns-else-k-i
returns-else-k-i c = sym (bit_in_miss _ _ c.if-k-i.false)
