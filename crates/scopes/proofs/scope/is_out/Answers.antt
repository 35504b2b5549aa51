use Rattle.model.specs.Words.{columns}
use Rattle.model.specs.Rows.{program, tag}
use Rattle.model.specs.Scopes.{uses, binder}
use Rattle.layout.proofs.Visits.{used_below}
use native.Mathlib.Omega.{arith}
use mathlib.Core.Bool.{true}
use mathlib.Core.Path.{◌≡◌, sym, ◌∙◌, ap}
use Rattle.scopes.proofs.Scoping.{out_unused, out_unbound, out_by, binder_binds}
use Rattle.scopes.proofs.scope.is_out.Goals as goal

pub returns-then-not-uses : goal.returns-then-not-uses
returns-then-not-uses c = out_unused _ _ (ap uses (sym c.tag.ensures) ∙ (sym c.uses.ensures ∙ c.if-not-uses.true))

pub returns-then-b-s : goal.returns-then-b-s
unfolding program columns
returns-then-b-s c =
    let found-here : let a = c.args in let p = program a.ws.now a.s in (uses (tag p a.r) ≡ true) × (c.entry-b.result ≡ binder p c.num.result) = let a = c.args in
    let u = (ap uses (sym c.tag.ensures) ∙ (sym c.uses.ensures ∙ c.if-not-uses.false)) in
    let b = used_below (program a.ws.now a.s) a.r c.requires.laid.fitted.fits c.requires.binder_table.1 u in
    (u, c.entry-b.ensures ∙ c.requires.binder_table.0.binders _ (omega (arith, c.num.ensures))) in let f = found-here in out_unbound c.args.ws.now c.args.s _ _ _ f.0 c.num.ensures f.1 c.if-b-s.true c.requires.binder_table.1

pub is_in_scope-requires : goal.is_in_scope-requires
unfolding program columns
is_in_scope-requires c =
    let found-here : let a = c.args in let p = program a.ws.now a.s in (uses (tag p a.r) ≡ true) × (c.entry-b.result ≡ binder p c.num.result) = let a = c.args in
    let u = (ap uses (sym c.tag.ensures) ∙ (sym c.uses.ensures ∙ c.if-not-uses.false)) in
    let b = used_below (program a.ws.now a.s) a.r c.requires.laid.fitted.fits c.requires.binder_table.1 u in
    (u, c.entry-b.ensures ∙ c.requires.binder_table.0.binders _ (omega (arith, c.num.ensures))) in
    record { laid = c.requires.laid; r_lt_rows = (c.requires.binder_table.1, c.if-b-s.false, binder_binds _ _ _ found-here.1 c.if-b-s.false) }

pub returns : goal.returns
unfolding columns program
returns c =
    let found-here : let a = c.args in let p = program a.ws.now a.s in (uses (tag p a.r) ≡ true) × (c.entry-b.result ≡ binder p c.num.result) = let a = c.args in
    let u = (ap uses (sym c.tag.ensures) ∙ (sym c.uses.ensures ∙ c.if-not-uses.false)) in
    let b = used_below (program a.ws.now a.s) a.r c.requires.laid.fitted.fits c.requires.binder_table.1 u in
    (u, c.entry-b.ensures ∙ c.requires.binder_table.0.binders _ (omega (arith, c.num.ensures))) in let f = found-here in out_by _ _ _ _ _ f.0 c.num.ensures f.1 c.is_in_scope.ensures
