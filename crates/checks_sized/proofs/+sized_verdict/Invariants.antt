use Prim.Native.Nat.{◌-◌}
use Rattle.checks_sized.proofs.+sized_verdict.Given as goal

abbrev pub decreases-sized_verdict : goal.decreases-sized_verdict
decreases-sized_verdict l = 1024 - l.most
