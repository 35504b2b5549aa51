use native.Mathlib.Omega.{arith}
use mathlib.Core.Path.{refl, sym, ◌∙◌}
use Rattle.model.proofs.Index.{first_end, first_hit, first_miss}
use Rattle.scopes.proofs.Found.{found_at, found_none}
use Rattle.scopes.proofs.names.first_again.Goals as goal

pub loop-r-init : goal.loop-r-init
loop-r-init c = refl

pub returns-then-is_again : goal.returns-then-is_again
returns-then-is_again c =
    let l = c.loop-r in
    found_at _ l.r _ (omega arith) (l.invariant ∙ first_hit l.r _ _ (omega arith) (sym c.is_again.ensures ∙ c.if-is_again.true))

pub loop-r-preserved : goal.loop-r-preserved
loop-r-preserved c = let l = c.loop-r in l.invariant ∙ first_miss l.r _ _ (omega arith) (sym c.is_again.ensures ∙ c.if-is_again.false)

pub returns : goal.returns
returns c =
    let l = c.loop-r in
    let passed = l.invariant ∙ first_end l.r _ _ (omega arith) in
    found_none _ _ (omega arith)
