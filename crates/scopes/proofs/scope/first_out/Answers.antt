use native.Mathlib.Omega.{arith}
use mathlib.Core.Path.{refl, sym, ◌∙◌}
use Rattle.model.proofs.Index.{first_end, first_hit, first_miss}
use Rattle.scopes.proofs.Found.{found_at, found_none}
use Rattle.scopes.proofs.scope.first_out.Goals as goal

pub loop-r-init : goal.loop-r-init
loop-r-init c = refl

pub returns-then-is_out : goal.returns-then-is_out
returns-then-is_out c =
    let l = c.loop-r in
    found_at _ l.r _ (omega arith) (l.invariant ∙ first_hit l.r _ _ (omega arith) (sym c.is_out.ensures ∙ c.if-is_out.true))

pub loop-r-preserved : goal.loop-r-preserved
loop-r-preserved c = let l = c.loop-r in l.invariant ∙ first_miss l.r _ _ (omega arith) (sym c.is_out.ensures ∙ c.if-is_out.false)

pub returns : goal.returns
returns c =
    let l = c.loop-r in
    let passed = l.invariant ∙ first_end l.r _ _ (omega arith) in
    found_none _ _ (omega arith)
