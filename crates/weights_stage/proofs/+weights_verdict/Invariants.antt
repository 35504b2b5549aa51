use Prim.Native.Nat.{◌-◌}
use Rattle.weights_stage.proofs.+weights_verdict.Given as goal

abbrev pub decreases-weights_verdict : goal.decreases-weights_verdict
decreases-weights_verdict l = 512 - l.most
