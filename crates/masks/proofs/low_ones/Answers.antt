use Rattle.bits.proofs.Bits.{bit_low_ones}
use Rattle.masks.proofs.Masks.{one_pos, all_low}
use borrow.Author.Rules.{rules}
use Rattle.masks.proofs.low_ones.Goals as goal

pub overflow_sub-result : goal.overflow_sub-result
overflow_sub-result c = one_pos _ (search rules)

pub returns-then-k-ge64 : goal.returns-then-k-ge64
returns-then-k-ge64 c = λ j h. all_low _ j (search rules) h

pub returns-else-k-ge64 : goal.returns-else-k-ge64
returns-else-k-ge64 c = λ j _. bit_low_ones _ j (search rules)
