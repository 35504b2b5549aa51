use Prim.Native.Nat.{◌-◌}
use Rattle.ceilings_sized.proofs.+ceilings_verdict.Given as goal

abbrev pub decreases-ceilings_verdict : goal.decreases-ceilings_verdict
decreases-ceilings_verdict l = 512 - l.most
