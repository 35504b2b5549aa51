use Rattle.text.proofs.Digits.{width_logged}
use Rattle.text.proofs.width_of.Goals as goal

pub returns : goal.returns
returns c = let e = c.ilog10.ensures in width_logged _ _ _ c.max.ensures e.power_le e.next_power_gt e.bound
