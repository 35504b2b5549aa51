use native.Mathlib.Omega.{arith}
use Rattle.bads_rows.proofs.Walking.{item_ends}
use borrow.Author.Rules.{rules}
use Rattle.bads_rows.proofs.next_item.Goals as goal

pub overflow_add-result : goal.overflow_add-result
overflow_add-result c = let h = item_ends _ _ _ c.requires.r_le_badrows _ c.past_heads.ensures in search rules

pub returns : goal.returns
returns c =
    let h = item_ends _ _ _ c.requires.r_le_badrows _ c.past_heads.ensures in record { value = omega (arith, c.past_heads.ensures); lower_bound = h }
