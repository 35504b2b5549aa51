use mathlib.Core.Path.{◌∙◌, ap}
use mathlib.Core.Bool.{◌||◌}
use Rattle.masks.specs.Masks.{has}
use Rattle.ceilings_masks.proofs.over_more.Goals as goal

pub returns : goal.returns
returns c =
    let o = c.args.o in
    record {
      by_index = c.or.ensures;
      by_index_2 = λ k. c.or-2.ensures k ∙ ap (λ b. has o.twice k || b) (c.and.ensures k);
      by_index_3 = λ k. c.or-3.ensures k ∙ ap (λ b. has o.thrice k || b) (c.and-2.ensures k);
      more_at = c.more_from.ensures;
      more_at_2 = c.more_from-2.ensures;
    }
