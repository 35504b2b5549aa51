use native.Mathlib.Omega.{arith}
use mathlib.Core.Path.{sym, ◌∙◌, ap}
use Rattle.model.specs.Words.{columns}
use Rattle.model.specs.Rows.{program}
use Rattle.model.specs.Scopes.{binds}
use Rattle.layout.proofs.Visits.{bound_below}
use Rattle.scopes.proofs.Binding.{again_is, never_again}
use Rattle.scopes.proofs.names.is_again.Goals as goal

pub returns-then-binds : goal.returns-then-binds
unfolding program columns
returns-then-binds c =
    let a = c.args in
    let b = ap binds (sym c.tag.ensures) ∙ (sym c.binds.ensures ∙ c.if-binds.true) in
    let n = c.num-n in
    let i = bound_below (program a.ws.now a.s) a.r c.requires.fitted.fits c.requires.binder_table.1 b in
    again_is _ a.r n.result _ c.requires.binder_table.1 n.ensures b (c.entry.ensures ∙ c.requires.binder_table.0.binders n.result (omega (arith, n.ensures)))

pub returns-else-binds : goal.returns-else-binds
returns-else-binds c = sym (never_again _ _ (ap binds (sym c.tag.ensures) ∙ (sym c.binds.ensures ∙ c.if-binds.false)))
