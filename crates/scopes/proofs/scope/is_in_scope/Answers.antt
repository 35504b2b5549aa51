use Rattle.model.specs.Words.{columns}
use Rattle.model.specs.Rows.{program}
use native.Mathlib.Omega.{arith}
use mathlib.Core.Path.{sym, ◌∙◌}
use Rattle.scopes.proofs.Scoping.{scope_global, scope_before, scope_within, holds_end}
use Rattle.scopes.proofs.scope.is_in_scope.Goals as goal

pub returns-then-tag-eq-TAG_GLOBAL : goal.returns-then-tag-eq-TAG_GLOBAL
returns-then-tag-eq-TAG_GLOBAL c = scope_global _ _ _ (sym c.tag.ensures ∙ c.if-tag-eq-TAG_GLOBAL.true)

pub returns-then-from-r : goal.returns-then-from-r
returns-then-from-r c = scope_before _ _ _ _ (λ y. c.if-tag-eq-TAG_GLOBAL.false (c.tag.ensures ∙ y)) c.holds_in-from.ensures c.if-from-r.true

pub returns : goal.returns
unfolding program columns
returns c =
    let a = c.args in
    let x = c.holds_in-from in
    scope_within _ a.b a.r x.result _ (λ y. c.if-tag-eq-TAG_GLOBAL.false (c.tag.ensures ∙ y)) x.ensures c.if-from-r.false
    (holds_end a.ws.now a.s a.b x.result _ _ c.requires.laid.fitted.fits c.requires.r_lt_rows.1 c.requires.r_lt_rows.2 x.ensures (omega arith) c.requires.laid.after c.entry-end.ensures)
