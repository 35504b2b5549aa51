use Prim.Native.Nat.{◌-◌}
use Rattle.closure_sized.proofs.+open_verdict.Given as goal

abbrev pub decreases-open_verdict : goal.decreases-open_verdict
decreases-open_verdict l = 1024 - l.most
