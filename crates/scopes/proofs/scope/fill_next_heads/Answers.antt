use Prim.Native.Nat.{◌-◌, ◌≤◌, ◌<◌}
use native.Mathlib.Omega.{arith}
use native.Mathlib.Nat.{le_refl}
use mathlib.Core.Path.{◌≡◌, sym, ◌∙◌, ap}
use Rattle.model.specs.Words.{columns}
use Rattle.model.specs.Rows.{program, is_head_of}
use Rattle.model.specs.Scopes.{next_head}
use Rattle.scopes.proofs.Scoping.{heads_set, head_here, head_behind, head_end}
use Rattle.scopes.proofs.scope.fill_next_heads.Goals as goal
use Rattle.scopes.proofs.scope.fill_next_heads.Goals.{then-is_head, else-is_head}

pub loop-r-init : goal.loop-r-init
unfolding program columns
loop-r-init c = (le_refl _, head_end _, λ r a b. absurd (omega (arith, a, b)))

pub loop-r-preserved : goal.loop-r-preserved
unfolding program columns
loop-r-preserved c =
    let l = c.loop-r in
    let e = ap is_head_of (sym c.tag.ensures) ∙ sym c.is_head.ensures in
    let below : l.r - 1 < c.args.s.rows = omega arith in
    let joined : (c.if-is_head.head ≤ c.args.s.rows) × (c.if-is_head.head ≡ next_head (program c.args.ws.now c.args.s) (l.r - 1)) = elim c.if-is_head.branch [
      | then-is_head w ↦ (omega (arith, w.head-is), w.head-is ∙ head_here _ (l.r - 1) below (e ∙ w.if-is_head.true))
      | else-is_head w ↦ (omega (arith, w.head-is, l.invariant.0), head_behind _ l.r (l.r - 1) _ (omega arith) below (e ∙ w.if-is_head.false) (w.head-is ∙ l.invariant.1))
    ] in
    (joined.0, joined.1, heads_set _ l.r (l.r - 1) _ l.table (omega arith) (omega arith) joined.1 l.invariant.2)
