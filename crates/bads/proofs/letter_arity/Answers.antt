use mathlib.Core.Path.{◌∙◌}
use Rattle.model.specs.Rows.{program, arity}
use Rattle.bads.proofs.Parts.{arity_of, arity_none}
use Rattle.bads.proofs.letter_arity.Goals as goal

pub returns-then-k-s : goal.returns-then-k-s
unfolding program arity
returns-then-k-s c = c.num.ensures ∙ arity_of _ _ c.if-k-s.true

pub returns-else-k-s : goal.returns-else-k-s
unfolding program
returns-else-k-s c = arity_none _ _ c.if-k-s.false
