use Rattle.model.proofs.Logic.{true_false}
use Rattle.ceilings_groups.proofs.Settling.{sets_put}
use Rattle.ceilings_groups.proofs.put_group.Goals as goal

pub returns-then-boundless : goal.returns-then-boundless
returns-then-boundless c =
    sets_put _ _ _ _ _ _ _ _ _ _ _ _ _ _
    (record {
      opens = c.open_to_all-free.ensures;
      opens_letters = λ k j h b t. true_false t (c.none.ensures k);
      opens_one = λ k j h b t. true_false t (c.none-then-boundless.ensures k);
    })
    c.store_three.ensures

pub returns : goal.returns
returns c = sets_put _ _ _ _ _ _ _ _ _ _ _ _ _ _ c.sets_to_all-sets.ensures c.store_three-2.ensures
