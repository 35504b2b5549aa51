use native.Mathlib.Omega.{arith}
use mathlib.Core.Path.{◌∙◌, ap, ap₂}
use mathlib.Core.Bool.{not, ◌&&◌, ◌||◌}
use Rattle.masks.specs.Masks.{has}
use Rattle.ceilings_covers.proofs.Covering.{left_is}
use Rattle.ceilings_covers.proofs.left_after.Goals as goal

pub load-requires : goal.load-requires
load-requires c = record { room = omega (arith, c.requires.i_lt_n.0, c.requires.beside.room) }

pub returns : goal.returns
returns c =
    let o = c.args.over in
    left_is _ _ _ _ o c.requires.beside.held_by.few c.requires.beside.counted _ c.requires.i_lt_n.0 _
    (λ j h. c.or.ensures j ∙ ap₂ (λ a b. a || b) (c.without-whole.ensures j ∙ ap (λ b. b && not (has o.once j)) (c.below.ensures j h)) (c.without-by_one.ensures j ∙ ap (λ b. b && not (has o.twice j)) (c.load.ensures j h ∙ c.requires.beside.neighbours.by_one _ j c.requires.i_lt_n.0 c.requires.i_lt_n.1 h)))
