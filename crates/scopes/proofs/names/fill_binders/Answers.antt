use Prim.Native.Nat.{◌-◌}
use native.Mathlib.Omega.{arith}
use native.Mathlib.Nat.{le_refl}
use mathlib.Core.Path.{sym, ◌∙◌, ap}
use Rattle.model.specs.Words.{columns}
use Rattle.model.specs.Rows.{program}
use Rattle.model.specs.Scopes.{binds, binds_name}
use Rattle.model.proofs.Index.{first_end}
use Rattle.scopes.proofs.Binding.{binders_set, binders_keep, binders_all, binds_no_name, binds_nothing}
use Rattle.scopes.proofs.names.fill_binders.Goals as goal
use Rattle.scopes.proofs.names.fill_binders.Goals.{else-n-s-via-then-n-s+else-binds, else-n-s-via-else-n-s}

pub loop-r-init : goal.loop-r-init
unfolding program columns
loop-r-init c =
    let a = c.args in
    λ n h. c.blank_binders.ensures.rows n h ∙ sym (first_end a.s.rows a.s.rows (binds_name _ n) (le_refl _))

pub loop-r-preserved-then-binds : goal.loop-r-preserved-then-binds
unfolding program columns
loop-r-preserved-then-binds c =
    let l = c.loop-r in
    binders_set _ l.r (l.r - 1) _ l.table (omega arith) (omega arith) c.num-n.ensures (omega arith) c.if-n-s.true
    (ap binds (sym c.tag.ensures) ∙ (sym c.binds.ensures ∙ c.if-binds.true)) l.invariant

pub loop-r-preserved : goal.loop-r-preserved
unfolding program columns
loop-r-preserved c =
    let l = c.loop-r in
    binders_keep _ l.r (l.r - 1) l.table (omega arith) (omega arith)
    (elim c.else-n-s.branch [
      | else-n-s-via-then-n-s+else-binds w ↦ λ m h. binds_nothing _ (l.r - 1) m (ap binds (sym w.tag.ensures) ∙ (sym w.binds.ensures ∙ w.if-binds.false))
      | else-n-s-via-else-n-s w ↦ λ m h. binds_no_name _ (l.r - 1) m _ c.num-n.ensures w.if-n-s.false h
    ])
    l.invariant

pub returns : goal.returns
unfolding program columns
returns c = let l = c.loop-r in record { binders = binders_all _ l.r l.table c.loop-r-test.false l.invariant }
