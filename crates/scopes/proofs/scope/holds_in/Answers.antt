use Rattle.model.specs.Words.{columns}
use Rattle.model.specs.Rows.{program, is_head_of}
use mathlib.Core.Path.{sym, ◌∙◌, ap}
use Rattle.scopes.proofs.Scoping.{holds_rest, holds_next}
use Rattle.scopes.proofs.scope.holds_in.Goals as goal

pub returns-then-is_head : goal.returns-then-is_head
returns-then-is_head c = holds_rest _ _ _ (ap is_head_of (sym c.tag.ensures) ∙ (sym c.is_head.ensures ∙ c.if-is_head.true)) c.rest_of.ensures

pub returns-else-is_head : goal.returns-else-is_head
unfolding program columns
returns-else-is_head c = holds_next _ _ _ (ap is_head_of (sym c.tag.ensures) ∙ (sym c.is_head.ensures ∙ c.if-is_head.false)) (c.entry.ensures ∙ c.requires.laid.head.heads _ c.requires.b_lt_rows)
