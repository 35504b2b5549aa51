-- Each sum is far below the end of the numbers, by `Low-sizes`.
use borrow.Author.Rules.{rules}
use Rattle.model.specs.Message.{bads_offset}
use Rattle.parts.proofs.bads_at.Goals as goal

pub returns : goal.returns
unfolding bads_offset
returns c = search rules
