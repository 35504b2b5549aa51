use Prim.Native.Nat.{◌-◌}
use Rattle.checks.proofs.system.+sets_verdict.Given as goal

abbrev pub decreases-sets_verdict : goal.decreases-sets_verdict
decreases-sets_verdict l = 4096 - l.most
