use Prim.Native.Nat.{◌-◌}
use Rattle.checks_sized.proofs.verdict.+whole_verdict.Given as goal

abbrev pub decreases-whole_verdict : goal.decreases-whole_verdict
decreases-whole_verdict l = 65536 - l.most
