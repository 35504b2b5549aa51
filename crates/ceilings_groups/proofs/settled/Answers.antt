use native.Mathlib.Omega.{arith}
use mathlib.Core.Path.{◌∙◌, ap}
use mathlib.Core.Bool.{not}
use Rattle.masks.specs.Masks.{has}
use Rattle.ceilings_groups.proofs.Leading.{any_same}
use Rattle.ceilings_groups.proofs.Settling.{settled_bit}
use Rattle.model.proofs.Logic.{not_not}
use Rattle.ceilings_groups.proofs.settled.Goals as goal

pub load-requires : goal.load-requires
load-requires c = record { room = omega (arith, c.requires) }

pub load-requires-2 : goal.load-requires-2
load-requires-2 c = record { room = omega (arith, c.requires) }

pub load-requires-3 : goal.load-requires-3
load-requires-3 c = record { room = omega (arith, c.requires) }

pub returns : goal.returns
returns c =
    ap not c.is_none.ensures ∙
    (not_not _ ∙ any_same 0 256 _ _ (λ k h. settled_bit c.args.over _ _ k (has c.args.left k) _ _ _ _ _ _ _ _ (c.and.ensures k) (c.or-2.ensures k) (c.or.ensures k) (c.load-3.ensures k h) (c.and-lettered.ensures k) (c.load.ensures k h) (c.and-raised.ensures k) (c.load-2.ensures k h)))
