use Prim.Native.Nat.{◌-◌}
use native.Mathlib.Omega.{arith}
use mathlib.Core.Path.{◌≡◌, sym, ◌∙◌, ap}
use Rattle.layout.specs.Tables.{hop}
use Rattle.layout.proofs.Ending.{hop_turn, hop_end}
use Rattle.layout.proofs.ends.hops.Goals as goal

pub loop-init : goal.loop-init
loop-init c =
    let a = c.args in
    let all : a.n ≡ a.n - 0 = omega arith in
    ap (λ n. hop a.afters.now n a.q) all

pub loop-preserved : goal.loop-preserved
loop-preserved c = let l = c.loop in l.invariant ∙ hop_turn _ _ l.at _ _ (omega arith) c.entry-at.ensures

pub returns : goal.returns
returns c = let l = c.loop in sym (l.invariant ∙ hop_end _ _ l.at (omega arith))
